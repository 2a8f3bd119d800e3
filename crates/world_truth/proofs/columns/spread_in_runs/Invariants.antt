use Rattle.std.specs.Prelude.{◌≡◌, ◌<◌, ◌+◌, ◌-◌, ◌/◌, ◌%◌, ℕ}
use Rattle.bit_sets.specs.BitSets.{has}
use Rattle.world_truth.proofs.columns.spread_in_runs.Given as goal

abbrev pub invariant-loop-done : goal.invariant-loop-done
invariant-loop-done l = (c : ℕ) → c < 64 → c / l.stride < l.done → has l.spread.bits c ≡ has l.set.bits ((l.runs - l.done + c / l.stride) % l.count)
