use Rattle.std.specs.Prelude.{◌≡◌, ◌+◌}
use Rattle.std.specs.List.{range_with_len}
use Rattle.bit_sets.specs.BitSets.{has}
use Rattle.world_truth.specs.inside.Tables.{joined}
use Rattle.world_truth.proofs.columns.joined_from.Given as goal

abbrev pub invariant-loop-before : goal.invariant-loop-before
invariant-loop-before l = l.value ≡ joined l.junction (λ m. has l.set.bits (l.first + m)) (range_with_len 0 l.before)
