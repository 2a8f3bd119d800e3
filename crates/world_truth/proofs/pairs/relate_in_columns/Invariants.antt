use Rattle.std.specs.Prelude.{◌<◌, ◌+◌, length}
use Rattle.worlds.specs.inside.Extensions.{IsExtension}
use Rattle.world_truth.specs.inside.Digits.{digit_of}
use Rattle.world_truth.specs.inside.Relations.{relates}
use Rattle.world_truth.proofs.Grouping.{AreGrouped}
use Rattle.world_truth.proofs.pairs.relate_in_columns.Given as goal

abbrev pub invariant-loop-place : goal.invariant-loop-place
invariant-loop-place l =
    AreGrouped (λ m. IsExtension l.columns (λ c. relates l.world l.fn.relation (digit_of (length l.world) l.stride c + 1) (m + 1)))
    (λ m bits. m < length l.world → IsExtension (length l.world) (λ k. relates l.world l.fn.relation (k + 1) (m + 1)) bits) l.first l.fn.sets l.place l.sets
