use Rattle.std.proofs.Common.{◌≡◌, take, drop}
use Rattle.desk_legal.specs.Legal.{exercise_may}
use Rattle.desk_legal.specs.Prefixes.{first_bad, first_bad_behind}
use Rattle.desk_legal.proofs.exercises.bad_exercise.Given as goal

abbrev pub invariant-loop-place : goal.invariant-loop-place
invariant-loop-place l = first_bad_behind exercise_may (take l.place l.rows) (drop l.place l.rows) ≡ first_bad exercise_may l.rows
