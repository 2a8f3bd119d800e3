use Rattle.std.proofs.Common.{◌≡◌, length}
use Rattle.world_truth.specs.inside.Digits.{case_of}
use Rattle.world_truth.specs.inside.Tables.{bits_in}
use Rattle.world_truth.proofs.Filling.{AreFilled}
use Rattle.world_truth.proofs.tabulation.deal.Given as goal

abbrev pub invariant-loop-row : goal.invariant-loop-row
invariant-loop-row l = AreFilled (λ r bits. bits ≡ bits_in l.sets (case_of (length l.world) l.digits r)) l.fn.table l.row l.table
