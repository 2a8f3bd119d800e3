use Rattle.deriv_laws.proofs.Connectives.{or_intro, or_elim, not_intro, not_elim, bot_intro, bot_elim, if_intro, if_elim, iff_intro, iff_elim, iff_back, cut}
use Rattle.deriv_laws.proofs.derivability.connective_rules.Goals as goal

pub returns : goal.returns
returns c = record {
  addition = or_intro;
  cases = or_elim;
  contradiction = not_intro;
  double_negation = not_elim;
  absurdity = bot_intro;
  explosion = bot_elim;
  deduction = if_intro;
  detachment = if_elim;
  equivalence = iff_intro;
  forward = iff_elim;
  backward = iff_back;
  cut = cut;
}
