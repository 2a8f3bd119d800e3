use Rattle.std.proofs.Common.{IsTrue, ◌↔◌, subst}
use Rattle.std.specs.Option.{option_copied}
use Rattle.rules_quant.specs.Shown.{IsGeneral}
use Rattle.rules_quant.proofs.Showing.{all_shown}
use Rattle.rules_quant.proofs.shown.shows_all.Goals as goal

pub returns-in-All : goal.returns-in-All
returns-in-All c = record {
  exact =
      let hyp = option_copied c.args.hypothesis in
      let end = option_copied c.args.end in
      all_shown hyp end c.args.c.now c.in-All.x c.in-All.matrix c.args.s.now c.is_general_proof.result c.in-All.is
      (subst (λ p. IsTrue c.is_general_proof.result ↔ IsGeneral hyp end c.args.c.now c.in-All.x p) c.get.ensures c.is_general_proof.ensures.exact);
}
