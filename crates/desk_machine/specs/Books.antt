-- The book of a course: best credits and marks.
use Rattle.std.specs.Prelude.{ℕ, ◌+◌, ◌-◌, ◌^◌, Bool, ◌&&◌, ◌==◌, min, max, List, [], ◌∷◌, map, fold, Result, Ok, Err, Some, None, if◌then◌else◌}
use Rattle.std.specs.Str.{bytes_eq}
use Rattle.std.specs.List.{cons_option}
use Rattle.std.specs.Option.{option_map, unwrap_or}
use Rattle.std.specs.declared.option.Option.{Option}
use Rattle.course_marks.specs.Marks.{course_mark}
use Rattle.desk_keeper.specs.declared.rows.ExerciseRow.{ExerciseRow}
use Rattle.desk_keeper.specs.declared.rows.SubmissionRow.{SubmissionRow}
use Rattle.desk_keeper.specs.declared.rows.UserRow.{UserRow}
use Rattle.desk_keeper.specs.declared.tables.Tables.{Tables}
use Rattle.desk_machine.specs.declared.answers.Book.{Book}
use Rattle.desk_machine.specs.declared.answers.BookRow.{BookRow}
use Rattle.desk_machine.specs.declared.faults.BookFault.{BookFault}
use Rattle.desk_machine.specs.declared.faults.BookFault.TheVariants.{UnknownToken, Role}
use Rattle.desk_machine.specs.declared.users.Known.{Known}
use Rattle.desk_machine.specs.Exercises.{latest}
use Rattle.desk_machine.specs.Grading.{credit_of, current}
use Rattle.desk_machine.specs.Reading.{exercise_names}
use Rattle.desk_machine.specs.Users.{in_32_bits, is_student, is_teacher}

-- What the submission with this ticket earns by its current grade, where it has one.
abbrev pub credit_now : Tables → ℕ → SubmissionRow → Option ℕ
credit_now tables ticket row = option_map (credit_of tables.exercises row) (current tables.grades ticket)

-- The row is a submission of the student to the exercise.
abbrev pub is_own : ℕ → List ℕ → SubmissionRow → Bool
is_own student name row = row.student == student && bytes_eq row.name name

-- What the student's graded submissions to the exercise earn, among these, of which the first has this ticket.
abbrev pub credits_from : Tables → ℕ → List ℕ → ℕ → List SubmissionRow → List ℕ
credits_from tables student name ticket [] = []
credits_from tables student name ticket (row ∷ rows) = if is_own student name row
    then cons_option (credit_now tables ticket row) (credits_from tables student name (ticket + 1) rows)
    else credits_from tables student name (ticket + 1) rows

-- The greater of the two.
abbrev pub greater : Option ℕ → ℕ → Option ℕ
greater None credit = Some credit
greater (Some best) credit = Some (max best credit)

-- The student's best credit for the exercise, where a submission of it is graded.
abbrev pub best_of : Tables → ℕ → List ℕ → Option ℕ
best_of tables student name = fold greater None (credits_from tables student name 1 tables.submissions)

-- The sum of the numbers.
abbrev pub total : List ℕ → ℕ
total [] = 0
total (n ∷ ns) = n + total ns

-- The sum, as far as 64 bits go.
abbrev pub bounded_total : List ℕ → ℕ
bounded_total ns = min (total ns) (2 ^ 64 - 1)

abbrev pub points_in : Option ExerciseRow → ℕ
points_in None = 0
points_in (Some row) = row.settings.points

-- The points of the exercise's latest version.
abbrev pub points_of : List ExerciseRow → List ℕ → ℕ
points_of rows name = points_in (latest rows name)

-- A credit, or nothing where there is none.
abbrev pub credit_or_none : Option ℕ → ℕ
credit_or_none credit = unwrap_or credit 0

-- The mark for these credits, of so many points.
abbrev pub mark_of : List (Option ℕ) → ℕ → ℕ
mark_of credits points = course_mark (bounded_total (map credit_or_none credits)) points

-- The student's line, of so many points.
abbrev pub line_of : Tables → List (List ℕ) → ℕ → ℕ → UserRow → BookRow
line_of tables names points number user = record {
  number = number;
  name = user.name;
  best = map (best_of tables number) names;
  mark = mark_of (map (best_of tables number) names) points;
}

-- The lines of the students among these users, of whom the first has this number.
abbrev pub lines_from : Tables → List (List ℕ) → ℕ → ℕ → List UserRow → List BookRow
lines_from tables names points number [] = []
lines_from tables names points number (user ∷ users) = if is_student user.role
    then line_of tables names points (in_32_bits number) user ∷ lines_from tables names points (number + 1) users
    else lines_from tables names points (number + 1) users

-- The points that can be earned.
abbrev pub points_for : List ExerciseRow → List (List ℕ) → ℕ
points_for rows names = bounded_total (map (points_of rows) names)

-- The book: a line for each student, with the best credit for each exercise.
abbrev pub book_of : Tables → Book
book_of tables = record {
  names = exercise_names tables.exercises;
  students = lines_from tables (exercise_names tables.exercises) (points_for tables.exercises (exercise_names tables.exercises)) 1 tables.users;
}

-- A teacher is told the book.
abbrev pub plan_book : Option Known → Tables → Result Book BookFault
plan_book None tables = Err UnknownToken
plan_book (Some known) tables = if is_teacher known.role then Ok (book_of tables) else Err Role
