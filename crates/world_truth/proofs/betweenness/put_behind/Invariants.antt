use Rattle.std.specs.Prelude.{◌≡◌, ◌+◌, Some, [], ◌∷◌}
use Rattle.worlds.specs.declared.predicate.Predicate.TheVariants.{Between}
use Rattle.worlds.specs.Predicates.{says}
use Rattle.worlds.specs.Scales.{IsSetOf}
use Rattle.worlds.specs.Worlds.{block_at}
use Rattle.world_truth.specs.inside.Tables.{bits_in}
use Rattle.world_truth.proofs.Grouping.{AreGrouped}
use Rattle.world_truth.proofs.betweenness.put_behind.Given as goal

abbrev pub invariant-loop-place : goal.invariant-loop-place
invariant-loop-place l =
    AreGrouped (λ m. IsSetOf l.world (λ b. says Between (block_at l.world (m + 1) ∷ Some b ∷ block_at l.world l.number ∷ []))) (λ m bits. bits ≡ bits_in l.fn.sets (l.first + m)) l.first l.fn.sets l.place l.sets
