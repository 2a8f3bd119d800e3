use Rattle.std.proofs.Common.{◌≡◌, ◌++◌, drop, map}
use Rattle.std.specs.Prelude.{filter}
use Rattle.desk_machine.specs.Reading.{exercise_names}
use Rattle.desk_machine.proofs.reading.exercise_names.Given as goal

abbrev pub invariant-loop-row : goal.invariant-loop-row
invariant-loop-row l = l.names ++ exercise_names (drop l.row-index l.rows) ≡ exercise_names l.rows
