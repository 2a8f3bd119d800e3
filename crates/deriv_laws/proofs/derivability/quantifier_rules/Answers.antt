use Rattle.deriv_laws.proofs.Quantifiers.{eq_intro, eq_elim, all_intro, all_elim, ex_intro, ex_elim}
use Rattle.deriv_laws.proofs.derivability.quantifier_rules.Goals as goal

pub returns : goal.returns
returns c = record {
  self_identity = eq_intro;
  replacement = eq_elim;
  instantiation = all_elim;
  generalization = all_intro;
  witness = ex_intro;
  arbitrary_instance = ex_elim;
}
