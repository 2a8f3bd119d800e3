use Rattle.std.proofs.Common.{arith}
use Rattle.fol_core.specs.Size.{depth}
use Rattle.fol_core.proofs.Parts.{greatest_more}
use Rattle.fol_core.proofs.size.+depth.Goals as goal
use Rattle.fol_core.proofs.size.+depth.Goals.{deepest-then-here-most, deepest-else-here-most}

pub deepest-loop-part-preserved : goal.deepest-loop-part-preserved
deepest-loop-part-preserved t c =
    let more = greatest_more depth c.args.parts.now c.loop-part.part-index c.part-item.result c.loop-part-test.true c.part-item.is in
    elim c.if-here-most.branch [ deepest-then-here-most w ↦ omega (arith, more) | deepest-else-here-most w ↦ omega (arith, more) ]
