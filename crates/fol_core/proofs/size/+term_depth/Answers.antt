use Rattle.std.proofs.Common.{arith}
use Rattle.fol_core.specs.Size.{term_depth}
use Rattle.fol_core.proofs.Parts.{greatest_more}
use Rattle.fol_core.proofs.size.+term_depth.Goals as goal
use Rattle.fol_core.proofs.size.+term_depth.Goals.{deepest_term-then-here-most, deepest_term-else-here-most}

pub deepest_term-loop-term-preserved : goal.deepest_term-loop-term-preserved
deepest_term-loop-term-preserved t c =
    let more = greatest_more term_depth c.args.terms.now c.loop-term.term-index c.term-item.result c.loop-term-test.true c.term-item.is in
    elim c.if-here-most.branch [ deepest_term-then-here-most w ↦ omega (arith, more) | deepest_term-else-here-most w ↦ omega (arith, more) ]
