use Rattle.std.proofs.Common.{◌≡◌, ◌<◌, ℕ, length}
use Rattle.bit_sets.specs.BitSets.{has}
use Rattle.world_truth.specs.inside.Digits.{digit_of}
use Rattle.world_truth.proofs.Filling.{AreFilled}
use Rattle.world_truth.proofs.pairs.deal_members.Given as goal

abbrev pub invariant-loop-row : goal.invariant-loop-row
invariant-loop-row l = AreFilled (λ r bits. (k : ℕ) → k < 64 → has bits k ≡ has l.set.bits (digit_of (length l.world) l.stride r)) l.fn.table l.row l.table
