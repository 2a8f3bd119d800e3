use Rattle.worlds.specs.inside.Extensions.{IsExtension}
use Rattle.world_truth.specs.inside.Referents.{value_by}
use Rattle.world_truth.proofs.Filling.{AreFilled}
use Rattle.world_truth.proofs.atomic.Atomic.tabulate_each.Given as goal

abbrev pub invariant-loop-row : goal.invariant-loop-row
invariant-loop-row l = AreFilled (λ r. IsExtension l.extent.columns (value_by l.world l.self r)) l.fn.table l.row l.table
