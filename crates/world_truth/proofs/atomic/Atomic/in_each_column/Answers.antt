use Rattle.std.proofs.Common.{arith}
use Rattle.world_truth.specs.inside.Referents.{value_by}
use Rattle.worlds.proofs.Marking.{none_marked, marked_more, marked_extends}
use Rattle.world_truth.proofs.atomic.Atomic.in_each_column.Goals as goal

pub loop-column-init : goal.loop-column-init
loop-column-init c = none_marked _

pub loop-column-preserved : goal.loop-column-preserved
loop-column-preserved c =
    marked_more (value_by c.args.world.now c.args.self 0) c.loop-column.column c.loop-column.set.bits c.with-set.result.bits c.holds.result c.loop-column.invariant c.with-set.ensures.here c.with-set.ensures.elsewhere c.holds.ensures.value

pub returns : goal.returns
returns c = record { value = marked_extends _ _ c.loop-column.column _ (omega (arith, c.loop-column-test.false)) c.loop-column.invariant }
