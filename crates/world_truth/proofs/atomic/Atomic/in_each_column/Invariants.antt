use Rattle.world_truth.specs.inside.Referents.{value_by}
use Rattle.worlds.proofs.Marking.{IsMarked}
use Rattle.world_truth.proofs.atomic.Atomic.in_each_column.Given as goal

abbrev pub invariant-loop-column : goal.invariant-loop-column
invariant-loop-column l = IsMarked (value_by l.world l.self 0) l.column l.set.bits
