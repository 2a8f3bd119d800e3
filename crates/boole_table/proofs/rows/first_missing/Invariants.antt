use Rattle.std.proofs.Common.{◌≡◌, ◌+◌, drop}
use Rattle.boole_table.specs.Judges.{unset}
use Rattle.boole_table.proofs.rows.first_missing.Given as goal

abbrev pub invariant-loop-index : goal.invariant-loop-index
invariant-loop-index l = unset (l.index + 1) (drop l.index l.seen) ≡ unset 1 l.seen
