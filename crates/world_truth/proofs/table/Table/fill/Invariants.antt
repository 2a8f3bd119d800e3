use Rattle.std.proofs.Common.{◌≡◌}
use Rattle.world_truth.proofs.Filling.{AreFilled}
use Rattle.world_truth.proofs.table.Table.fill.Given as goal

abbrev pub invariant-loop-row : goal.invariant-loop-row
invariant-loop-row l = AreFilled (λ r bits. bits ≡ l.set.bits) l.fn.self l.row l.self
