use Rattle.std.specs.Prelude.{◌+◌, ◌*◌}
use Rattle.std.specs.List.{range_with_len}
use Rattle.bit_sets.specs.BitSets.{has}
use Rattle.world_truth.specs.inside.Tables.{joined}
use Rattle.worlds.proofs.Marking.{IsMarked}
use Rattle.world_truth.proofs.columns.gathered.Given as goal

abbrev pub invariant-loop-column : goal.invariant-loop-column
invariant-loop-column l = IsMarked (λ c. joined l.junction (λ m. has l.set.bits (c * l.count + m)) (range_with_len 0 l.count)) l.column l.gathered.bits
