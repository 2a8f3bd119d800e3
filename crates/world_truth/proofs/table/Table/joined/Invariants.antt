use Rattle.world_truth.specs.inside.Tables.{IsGroup}
use Rattle.world_truth.proofs.table.Table.joined.Given as goal

abbrev pub invariant-loop-before : goal.invariant-loop-before
invariant-loop-before l = IsGroup l.junction l.self l.first l.before l.set.bits
