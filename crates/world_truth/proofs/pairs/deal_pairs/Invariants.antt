use Rattle.std.proofs.Common.{◌<◌, length}
use Rattle.std.specs.Prelude.{◌+◌}
use Rattle.world_truth.specs.declared.atomic.Atomic.TheVariants.{Two}
use Rattle.world_truth.specs.declared.digits.Referent.TheVariants as ref
use Rattle.worlds.specs.inside.Extensions.{IsExtension}
use Rattle.world_truth.specs.inside.Referents.{value_by}
use Rattle.world_truth.specs.inside.Relations.{relates}
use Rattle.world_truth.proofs.Dealing.{AreDealt}
use Rattle.world_truth.proofs.pairs.deal_pairs.Given as goal

abbrev pub invariant-loop-done : goal.invariant-loop-done
invariant-loop-done l =
    AreDealt (λ r. IsExtension l.extent.columns (value_by l.world (Two l.fn.relation (ref.ByRow l.first) (ref.ByRow l.second)) r))
    (λ r bits. r < length l.world → IsExtension (length l.world) (λ k. relates l.world l.fn.relation (k + 1) (r + 1)) bits) l.extent.rows l.done l.table
