use Rattle.world_truth.specs.inside.Tables.{bits_in, AreGathered}
use Rattle.world_truth.proofs.Filling.{AreFilled}
use Rattle.world_truth.proofs.table.Table.gather.Given as goal

abbrev pub invariant-loop-row : goal.invariant-loop-row
invariant-loop-row l = AreFilled (λ r. AreGathered l.junction l.columns l.count (bits_in l.fn.self r)) l.fn.self l.row l.self
