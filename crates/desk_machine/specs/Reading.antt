-- What users are told.
use Rattle.std.specs.Prelude.{ℕ, ◌+◌, Bool, ◌&&◌, ◌==◌, List, [], ◌∷◌, map, filter, Result, Ok, Err, Some, None, if◌then◌else◌}
use Rattle.std.specs.declared.option.Option.{Option}
use Rattle.desk_keeper.specs.declared.rows.ExerciseRow.{ExerciseRow}
use Rattle.desk_keeper.specs.declared.rows.GradeRow.{GradeRow}
use Rattle.desk_keeper.specs.declared.rows.SubmissionRow.{SubmissionRow}
use Rattle.desk_keeper.specs.declared.tables.Tables.{Tables}
use Rattle.desk_machine.specs.declared.answers.MineRow.{MineRow}
use Rattle.desk_machine.specs.declared.faults.MineFault.{MineFault}
use Rattle.desk_machine.specs.declared.faults.MineFault.TheVariants as mine
use Rattle.desk_machine.specs.declared.faults.OneFault.{OneFault}
use Rattle.desk_machine.specs.declared.faults.OneFault.TheVariants as one
use Rattle.desk_machine.specs.declared.faults.NamesFault.{NamesFault}
use Rattle.desk_machine.specs.declared.faults.NamesFault.TheVariants as names
use Rattle.desk_machine.specs.declared.faults.SheetFault.{SheetFault}
use Rattle.desk_machine.specs.declared.faults.SheetFault.TheVariants as sheet
use Rattle.desk_machine.specs.declared.users.Known.{Known}
use Rattle.desk_machine.specs.Exercises.{latest}
use Rattle.desk_machine.specs.Grading.{credit_of, current}
use Rattle.desk_machine.specs.Users.{is_student}

-- A submission as its student sees it, by its current grade.
abbrev pub seen_by : Option GradeRow → List ExerciseRow → SubmissionRow → MineRow
seen_by None exercises row = record { number = row.number; name = row.name; version = row.version; late_days = row.late_days; graded = None }
seen_by (Some graded) exercises row = record {
  number = row.number;
  name = row.name;
  version = graded.version;
  late_days = row.late_days;
  graded = Some (record { grade = graded.grade; credit = credit_of exercises row graded });
}

-- The submission with this ticket, as its student sees it.
abbrev pub seen : Tables → ℕ → SubmissionRow → MineRow
seen tables ticket row = seen_by (current tables.grades ticket) tables.exercises row

-- The student's among these submissions, of which the first has this ticket.
abbrev pub seen_from : Tables → ℕ → ℕ → List SubmissionRow → List MineRow
seen_from tables student ticket [] = []
seen_from tables student ticket (row ∷ rows) = if row.student == student then seen tables ticket row ∷ seen_from tables student (ticket + 1) rows
    else seen_from tables student (ticket + 1) rows

-- The student's submission of this number among these, of which the first has this ticket.
abbrev pub one_from : Tables → ℕ → ℕ → ℕ → List SubmissionRow → Option MineRow
one_from tables student number ticket [] = None
one_from tables student number ticket (row ∷ rows) = if row.student == student && row.number == number then Some (seen tables ticket row)
    else one_from tables student number (ticket + 1) rows

-- A student is told its submissions.
abbrev pub plan_mine : Option Known → Tables → Result (List MineRow) MineFault
plan_mine None tables = Err mine.UnknownToken
plan_mine (Some known) tables = if is_student known.role then Ok (seen_from tables known.number 1 tables.submissions) else Err mine.Role

abbrev pub one_or : Option MineRow → Result MineRow OneFault
one_or None = Err one.NoNumber
one_or (Some row) = Ok row

-- A student is told its submission of this number.
abbrev pub plan_one : Option Known → Tables → ℕ → Result MineRow OneFault
plan_one None tables number = Err one.UnknownToken
plan_one (Some known) tables number = if is_student known.role then one_or (one_from tables known.number number 1 tables.submissions) else Err one.Role

-- The row sets an exercise for the first time.
abbrev pub is_first : ExerciseRow → Bool
is_first row = row.version == 1

-- The names of the exercises, in the order in which they were first set.
abbrev pub exercise_names : List ExerciseRow → List (List ℕ)
exercise_names rows = map (λ row. row.name) (filter is_first rows)

-- A user is told the exercises' names.
abbrev pub plan_names : Option Known → List ExerciseRow → Result (List (List ℕ)) NamesFault
plan_names None rows = Err names.UnknownToken
plan_names (Some known) rows = Ok (exercise_names rows)

abbrev pub sheet_or : Option ExerciseRow → Result ExerciseRow SheetFault
sheet_or None = Err sheet.NoExercise
sheet_or (Some row) = Ok row

-- A user is told the latest version of an exercise.
abbrev pub plan_sheet : Option Known → List ExerciseRow → List ℕ → Result ExerciseRow SheetFault
plan_sheet None rows name = Err sheet.UnknownToken
plan_sheet (Some known) rows name = sheet_or (latest rows name)
