-- Submissions.
use Rattle.std.specs.Prelude.{ℕ, ◌+◌, Bool, true, false, ◌&&◌, ◌==◌, nat_le, nat_lt, List, count_by, Result, Ok, Err, Some, None, if◌then◌else◌}
use Rattle.std.specs.Str.{bytes_eq}
use Rattle.std.specs.List.{find}
use Rattle.std.specs.declared.option.Option.{Option}
use Rattle.desk_forms.specs.Words.{key as is_key}
use Rattle.course_marks.specs.Marks.{close_instant, late_days}
use Rattle.desk_keeper.specs.declared.rows.ExerciseRow.{ExerciseRow}
use Rattle.desk_keeper.specs.declared.rows.ExtensionRow.{ExtensionRow}
use Rattle.desk_keeper.specs.declared.rows.SubmissionRow.{SubmissionRow}
use Rattle.desk_keeper.specs.declared.rows.Row.TheVariants.{Submission}
use Rattle.desk_keeper.specs.declared.tables.Tables.{Tables}
use Rattle.desk_machine.specs.declared.answers.Accepted.{Accepted}
use Rattle.desk_machine.specs.declared.faults.SubmitFault.{SubmitFault}
use Rattle.desk_machine.specs.declared.faults.SubmitFault.TheVariants.{UnknownToken, Role, NoExercise, BadKey, KeyReused, Closed, AttemptsUsed, NumbersUsed}
use Rattle.desk_machine.specs.declared.plans.Planned.{Planned}
use Rattle.desk_machine.specs.declared.users.Known.{Known}
use Rattle.desk_machine.specs.Exercises.{latest}
use Rattle.desk_machine.specs.Extending.{last_extension}
use Rattle.desk_machine.specs.Plans.{appends, says}
use Rattle.desk_machine.specs.Users.{is_student}

-- What a student hands in: the exercise's name, the key, the file, and when.
pub record Attempt : Type 0 where
  pub name : List ℕ
  pub key : List ℕ
  pub file : List ℕ
  pub moment : ℕ

-- The submission that the student has made with this key.
abbrev pub kept_under : List SubmissionRow → ℕ → List ℕ → Option SubmissionRow
kept_under rows student wanted = find (λ row. row.student == student && bytes_eq row.key wanted) rows

-- How many submissions the student has.
abbrev pub count_of : List SubmissionRow → ℕ → ℕ
count_of rows student = count_by (λ row. row.student == student) rows

-- How many submissions the student has to the exercise.
abbrev pub attempts_of : List SubmissionRow → ℕ → List ℕ → ℕ
attempts_of rows student name = count_by (λ row. row.student == student && bytes_eq row.name name) rows

-- The due moment of the last extension, or else that of the version.
abbrev pub due_by : Option ExtensionRow → ExerciseRow → ℕ
due_by (Some row) version = row.due
due_by None version = version.settings.due

-- When the exercise is due for the student.
abbrev pub due_for : List ExtensionRow → ExerciseRow → ℕ → ℕ
due_for rows version student = due_by (last_extension rows version.name student) version

-- The row of a submission that is accepted.
abbrev pub row_of : Tables → ExerciseRow → ℕ → Attempt → SubmissionRow
row_of tables version student attempt = record {
  student = student;
  number = count_of tables.submissions student + 1;
  name = attempt.name;
  version = version.version;
  key = attempt.key;
  file = attempt.file;
  moment = attempt.moment;
  late_days = late_days (due_for tables.extensions version student) attempt.moment;
}

-- What the student is told of a submission that is kept.
abbrev pub accepted : SubmissionRow → Accepted
accepted row = record { number = row.number; late_days = row.late_days }

-- Under a new key: closed, no attempt left, no number left, or accepted.
abbrev pub accepts : Tables → ExerciseRow → ℕ → Attempt → Planned (Result Accepted SubmitFault)
accepts tables version student attempt =
    if nat_lt (close_instant (due_for tables.extensions version student) version.settings.close_days) attempt.moment
    then says (Err (Closed (close_instant (due_for tables.extensions version student) version.settings.close_days)))
    else if nat_le version.settings.attempts (attempts_of tables.submissions student attempt.name)
    then says (Err (AttemptsUsed version.settings.attempts))
    else if nat_le 9999 (count_of tables.submissions student) then says (Err (NumbersUsed 9999))
    else appends (Ok (accepted (row_of tables version student attempt))) (Submission (row_of tables version student attempt))

-- Under a key that the student has used: the same exercise and bytes are the same submission, whatever the moment.
abbrev pub repeats : SubmissionRow → List ℕ → List ℕ → Planned (Result Accepted SubmitFault)
repeats row name file = if bytes_eq row.name name && bytes_eq row.file file then says (Ok (accepted row))
    else says (Err (KeyReused row.name row.number))

abbrev pub repeats_or_accepts : Option SubmissionRow → Tables → ExerciseRow → ℕ → Attempt → Planned (Result Accepted SubmitFault)
repeats_or_accepts (Some row) tables version student attempt = repeats row attempt.name attempt.file
repeats_or_accepts None tables version student attempt = accepts tables version student attempt

-- To the exercise's latest version, under a key.
abbrev pub submits : Option ExerciseRow → Tables → ℕ → Attempt → Planned (Result Accepted SubmitFault)
submits None tables student attempt = says (Err NoExercise)
submits (Some version) tables student attempt = if is_key attempt.key
    then repeats_or_accepts (kept_under tables.submissions student attempt.key) tables version student attempt
    else says (Err BadKey)

-- A student submits a file.
abbrev pub plan_submit : Option Known → Tables → Attempt → Planned (Result Accepted SubmitFault)
plan_submit None tables attempt = says (Err UnknownToken)
plan_submit (Some known) tables attempt = if is_student known.role
    then submits (latest tables.exercises attempt.name) tables known.number attempt
    else says (Err Role)
