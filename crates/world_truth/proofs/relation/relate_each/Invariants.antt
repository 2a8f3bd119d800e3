use Rattle.std.specs.Prelude.{◌≡◌, ◌+◌, length}
use Rattle.worlds.specs.inside.Extensions.{IsExtension}
use Rattle.world_truth.specs.inside.Relations.{relates}
use Rattle.world_truth.specs.inside.Tables.{bits_in}
use Rattle.world_truth.proofs.Grouping.{AreGrouped}
use Rattle.world_truth.proofs.relation.relate_each.Given as goal

abbrev pub invariant-loop-place : goal.invariant-loop-place
invariant-loop-place l =
    AreGrouped (λ m. IsExtension (length l.world) (λ k. relates l.world l.relation (k + 1) (m + 1))) (λ m bits. bits ≡ bits_in l.fn.sets (l.first + m)) l.first l.fn.sets l.place l.sets
