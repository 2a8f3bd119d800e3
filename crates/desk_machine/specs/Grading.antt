-- The current grade of a submission, and what it earns.
use Rattle.std.specs.Prelude.{ℕ, Bool, ◌==◌, nat_lt, List, filter, fold, Some, None, if◌then◌else◌}
use Rattle.std.specs.declared.option.Option.{Option}
use Rattle.course_marks.specs.Marks.{credit}
use Rattle.desk_keeper.specs.declared.rows.ExerciseRow.{ExerciseRow}
use Rattle.desk_keeper.specs.declared.rows.GradeRow.{GradeRow}
use Rattle.desk_keeper.specs.declared.rows.SubmissionRow.{SubmissionRow}
use Rattle.desk_machine.specs.Exercises.{version_of}

-- The row grades the submission with this ticket.
abbrev pub grades_ticket : ℕ → GradeRow → Bool
grades_ticket ticket row = row.ticket == ticket

-- Of two grades the one by the greater version, or else the first.
abbrev pub later_of : Option GradeRow → GradeRow → Option GradeRow
later_of None row = Some row
later_of (Some best) row = if nat_lt best.version row.version then Some row else Some best

-- The current grade of the submission with this ticket: among its grades, the one by the greatest version.
abbrev pub current : List GradeRow → ℕ → Option GradeRow
current grades ticket = fold later_of None (filter (grades_ticket ticket) grades)

-- What a grade with this code earns by the version, so many days late: nothing where it isn't correct.
abbrev pub credit_by : Option ExerciseRow → ℕ → ℕ → ℕ
credit_by None code days = 0
credit_by (Some version) code days = if code == 0 then credit version.settings.points version.settings.percent days else 0

-- What the submission earns by the grade.
abbrev pub credit_of : List ExerciseRow → SubmissionRow → GradeRow → ℕ
credit_of exercises row graded = credit_by (version_of exercises row.name graded.version) graded.grade.code row.late_days
