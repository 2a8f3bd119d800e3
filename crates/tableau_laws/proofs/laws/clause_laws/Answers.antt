use Rattle.tableau_laws.proofs.Published.{closing, unit, split}
use Rattle.tableau_laws.proofs.laws.clause_laws.Goals as goal

pub returns : goal.returns
returns c = record { closing = closing; unit = unit; split = split }
