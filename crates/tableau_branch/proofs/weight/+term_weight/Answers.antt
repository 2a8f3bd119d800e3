use Rattle.std.proofs.Common.{arith, sym, ◌∙◌, ap₂, ap, ◌<◌, length}
use Rattle.tableau_branch.specs.inside.Weight.{mix, term_weight}
use Rattle.tableau_branch.proofs.Mixing.{mixed_more}
use Rattle.tableau_branch.proofs.weight.+term_weight.Goals as goal

pub mix_terms-loop-one-preserved : goal.mix_terms-loop-one-preserved
mix_terms-loop-one-preserved t c =
    let h : c.loop-one.one-index < length c.args.terms.now = omega arith in
    (c.mix-weight.ensures.below, λ b. c.mix-weight.ensures.value ∙ ap₂ mix (c.loop-one.invariant.1 b) (c.term.ensures.value ∙ ap term_weight c.one-item.is) ∙ sym (mixed_more term_weight c.args.start c.args.terms.now c.loop-one.one-index c.one-item.result h))
