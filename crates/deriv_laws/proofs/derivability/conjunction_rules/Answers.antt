use Rattle.deriv_laws.proofs.Laws.{assume, weaken, and_intro, and_elim, der_stated}
use Rattle.deriv_laws.proofs.derivability.conjunction_rules.Goals as goal

pub returns : goal.returns
returns c = record { assumption = assume; weakening = weaken; conjunction = and_intro; part = and_elim; statement = der_stated }
