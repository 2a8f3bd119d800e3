use Rattle.std.proofs.Common.{◌*◌}
use Rattle.world_truth.proofs.Filling.{AreFilled}
use Rattle.world_truth.specs.inside.Tables.{IsGroup}
use Rattle.world_truth.proofs.table.Table.join_groups.Given as goal

abbrev pub invariant-loop-row : goal.invariant-loop-row
invariant-loop-row l = AreFilled (λ r. IsGroup l.junction l.fn.self (r * l.count) l.count) l.fn.self l.row l.self
