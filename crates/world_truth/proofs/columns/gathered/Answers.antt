use Rattle.std.proofs.Common.{ℕ, ◌+◌, ◌*◌, arith}
use Rattle.std.specs.List.{range_with_len}
use Rattle.bit_sets.specs.BitSets.{has}
use Rattle.world_truth.specs.inside.Tables.{joined}
use Rattle.worlds.proofs.Marking.{none_marked, marked_more, marked_extends}
use Rattle.world_truth.proofs.columns.gathered.Goals as goal

pub loop-column-init : goal.loop-column-init
loop-column-init c = none_marked _

pub loop-column-preserved : goal.loop-column-preserved
loop-column-preserved c =
    let f = λ (k : ℕ). joined c.args.junction (λ (m : ℕ). has c.args.set.bits (k * c.args.count + m)) (range_with_len 0 c.args.count) in
    marked_more f c.loop-column.column c.loop-column.gathered.bits c.with-gathered.result.bits c.joined_from.result c.loop-column.invariant c.with-gathered.ensures.here c.with-gathered.ensures.elsewhere c.joined_from.ensures.value

pub returns : goal.returns
returns c = record { value = marked_extends _ _ c.loop-column.column _ (omega (arith, c.loop-column-test.false)) c.loop-column.invariant }
