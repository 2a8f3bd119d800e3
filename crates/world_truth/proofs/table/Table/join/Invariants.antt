use Rattle.world_truth.specs.inside.Tables.{bits_in, IsJoin}
use Rattle.world_truth.proofs.Filling.{AreFilled}
use Rattle.world_truth.proofs.table.Table.join.Given as goal

abbrev pub invariant-loop-row : goal.invariant-loop-row
invariant-loop-row l = AreFilled (λ r. IsJoin l.connective (bits_in l.fn.self r) (bits_in l.other r)) l.fn.self l.row l.self
