use Rattle.std.proofs.Common.{arith, sym, ◌∙◌, ap₂, ◌<◌, length}
use Rattle.tableau_branch.specs.inside.Weight.{mix}
use Rattle.tableau_branch.proofs.Mixing.{mixed_byte}
use Rattle.tableau_branch.proofs.weight.mix_bytes.Goals as goal

pub loop-byte-preserved : goal.loop-byte-preserved
loop-byte-preserved c =
    let h : c.loop-byte.byte-index < length c.args.bytes.now = omega arith in
    (c.mix-weight.ensures.below, c.mix-weight.ensures.value ∙ ap₂ mix c.loop-byte.invariant.1 c.from.ensures ∙ sym (mixed_byte c.args.start c.args.bytes.now c.loop-byte.byte-index h))
