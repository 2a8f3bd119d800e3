use Rattle.std.proofs.Common.{arith, sym, ◌∙◌, ap₂, ap, ◌<◌, length}
use Rattle.tableau_branch.specs.inside.Weight.{mix, weight}
use Rattle.tableau_branch.proofs.Mixing.{mixed_more}
use Rattle.tableau_branch.proofs.weight.+weight.Goals as goal

pub mix_parts-loop-one-preserved : goal.mix_parts-loop-one-preserved
mix_parts-loop-one-preserved t c =
    let h : c.loop-one.one-index < length c.args.parts.now = omega arith in
    (c.mix-weight.ensures.below, λ b. c.mix-weight.ensures.value ∙ ap₂ mix (c.loop-one.invariant.1 b) (c.sentence.ensures.value ∙ ap weight c.one-item.is) ∙ sym (mixed_more weight c.args.start c.args.parts.now c.loop-one.one-index c.one-item.result h))
