-- The step from a line to the last one before it of a lower level.
use Rattle.std.proofs.Common.{◌∙◌, arith}
use Rattle.nested_proofs.proofs.LastBelow.{leads_back}
use Rattle.nested_proofs.proofs.lines.last_below.Goals as goal

pub loop-number-smaller : goal.loop-number-smaller
loop-number-smaller c =
    (leads_back c.args.depth c.args.lines.now c.args.index.now c.loop-number.number c.index-lines-number.result c.requires.is_index c.loop-number-test.true (omega arith) c.index-lines-number.is (omega (arith, c.level.ensures.value))).1

pub loop-number-preserved : goal.loop-number-preserved
loop-number-preserved c =
    let back = leads_back c.args.depth c.args.lines.now c.args.index.now c.loop-number.number c.index-lines-number.result c.requires.is_index c.loop-number-test.true (omega arith) c.index-lines-number.is (omega (arith, c.level.ensures.value)) in
    record { within = omega (arith, back.1); same = c.loop-number.invariant.same ∙ back.0 }
