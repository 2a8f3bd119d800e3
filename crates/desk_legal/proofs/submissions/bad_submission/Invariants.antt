use Rattle.std.proofs.Common.{◌≡◌, take, drop}
use Rattle.desk_legal.specs.Legal.{submission_may}
use Rattle.desk_legal.specs.Prefixes.{first_bad, first_bad_behind}
use Rattle.desk_legal.proofs.submissions.bad_submission.Given as goal

abbrev pub invariant-loop-place : goal.invariant-loop-place
invariant-loop-place l = first_bad_behind (submission_may l.tables) (take l.place l.rows) (drop l.place l.rows) ≡ first_bad (submission_may l.tables) l.rows
