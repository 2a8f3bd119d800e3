use Rattle.std.specs.Prelude.{◌<◌, ◌*◌, ℕ, length}
use Rattle.worlds.specs.inside.Extensions.{IsExtension}
use Rattle.world_truth.specs.inside.Referents.{value_by}
use Rattle.world_truth.specs.inside.Tables.{bits_in}
use Rattle.world_truth.proofs.atomic.Atomic.tabulate_groups.Given as goal

abbrev pub invariant-loop-group : goal.invariant-loop-group
invariant-loop-group l = (r : ℕ) → r < l.group * length l.world → IsExtension l.extent.columns (value_by l.world l.fn.self r) (bits_in l.table r)
