-- Legal tables: which row may stand behind which.
use Rattle.std.specs.Prelude.{ℕ, ◌+◌, ◌^◌, ◌≡◌, Bool, true, false, not, ◌&&◌, ◌||◌, ◌==◌, nat_le, nat_lt, List, [], ◌∷◌, length, Some, None, if◌then◌else◌}
use Rattle.std.specs.Str.{bytes_eq, is_utf8}
use Rattle.std.specs.List.{list_any}
use Rattle.std.specs.Option.{is_some}
use Rattle.std.specs.declared.option.Option.{Option}
use Rattle.desk_forms.specs.Words.{exercise_name, key as is_key, token as is_token, user_name}
use Rattle.course_marks.specs.Marks.{last_moment}
use Rattle.desk_keeper.specs.declared.rows.ExerciseRow.{ExerciseRow}
use Rattle.desk_keeper.specs.declared.rows.ExtensionRow.{ExtensionRow}
use Rattle.desk_keeper.specs.declared.rows.GradeRow.{GradeRow}
use Rattle.desk_keeper.specs.declared.rows.OrderRow.{OrderRow}
use Rattle.desk_keeper.specs.declared.rows.SubmissionRow.{SubmissionRow}
use Rattle.desk_keeper.specs.declared.rows.UserRow.{UserRow}
use Rattle.desk_keeper.specs.declared.tables.Tables.{Tables}
use Rattle.desk_machine.specs.Allowed.{allowed_grade, allowed_settings}
use Rattle.desk_machine.specs.Enrolling.{has_token}
use Rattle.desk_machine.specs.Exercises.{latest, version_of, versions}
use Rattle.desk_machine.specs.Jobs.{submission_of}
use Rattle.desk_machine.specs.Ordering.{is_for}
use Rattle.desk_machine.specs.Submitting.{count_of, kept_under}
use Rattle.desk_machine.specs.Users.{has_student, is_teacher}
use Rattle.desk_legal.specs.Prefixes.{first_bad}

-- The first user is a teacher.
abbrev pub may_begin : List UserRow → UserRow → Bool
may_begin [] user = is_teacher user.role
may_begin (other ∷ before) user = true

-- The user may stand behind these: its token and name have their forms, no other user has the token, and there is room.
abbrev pub user_may : List UserRow → UserRow → Bool
user_may before user = is_token user.token && user_name user.name && not (list_any (has_token user.token) before)
    && may_begin before user && nat_lt (length before) 100000

-- The version may stand behind these: it is the next one of its name, the settings are allowed, the text is UTF-8, and there is room.
abbrev pub exercise_may : List ExerciseRow → ExerciseRow → Bool
exercise_may before row = exercise_name row.name && row.version == length (versions before row.name) + 1
    && allowed_settings row.settings && is_utf8 row.text && nat_lt (length before) 10000

-- The extension is for a student and an exercise that is kept, to a moment in the range.
abbrev pub extension_may : Tables → ExtensionRow → Bool
extension_may tables row = has_student tables.users row.student && is_some (latest tables.exercises row.name) && nat_le row.due last_moment

-- The submission may stand behind these: it is a student's, to a version that is kept, with the student's next number and
-- under a new key of the student's; its file is shorter than 2^32 bytes, and the student has fewer than 9,999 others.
unfoldable pub submission_may : Tables → List SubmissionRow → SubmissionRow → Bool
submission_may tables before row = has_student tables.users row.student && is_some (version_of tables.exercises row.name row.version)
    && row.number == count_of before row.student + 1 && is_key row.key && not (is_some (kept_under before row.student row.key))
    && nat_lt (length row.file) (2 ^ 32) && nat_lt (count_of before row.student) 9999

-- The submission with this ticket is to be graded by the version: by its own, or by that of an order that is for it.
abbrev pub is_job_of : List OrderRow → ℕ → ℕ → Option SubmissionRow → Bool
is_job_of orders ticket version None = false
is_job_of orders ticket version (Some row) = row.version == version || list_any (is_for row.name version ticket) orders

-- The ticket and the version are those of a job.
abbrev pub is_job : Tables → ℕ → ℕ → Bool
is_job tables ticket version = is_job_of tables.orders ticket version (submission_of tables.submissions ticket)

-- The row grades the same job.
abbrev pub same_job : GradeRow → GradeRow → Bool
same_job row other = other.ticket == row.ticket && other.version == row.version

-- The grade may stand behind these: it grades a job that none of them grades, and is allowed.
abbrev pub grade_may : Tables → List GradeRow → GradeRow → Bool
grade_may tables before row = is_job tables row.ticket row.version && not (list_any (same_job row) before) && allowed_grade row.grade

-- The order is for a version that is kept, and for submissions that are there.
abbrev pub order_may : Tables → OrderRow → Bool
order_may tables row = is_some (version_of tables.exercises row.name row.version) && nat_le row.upto (length tables.submissions)

-- No table but that of the users has a row.
abbrev pub has_no_others : Tables → Bool
has_no_others tables = length tables.exercises == 0 && length tables.extensions == 0 && length tables.submissions == 0
    && length tables.grades == 0 && length tables.orders == 0

-- The least user that breaks a rule. Where there is no user but another row, the first user is missing.
abbrev pub bad_user : Tables → List UserRow → Option ℕ
bad_user tables [] = if has_no_others tables then None else Some 1
bad_user tables (user ∷ users) = first_bad user_may (user ∷ users)

-- The row of this table, or else what later tables have.
abbrev pub or_later : ℕ → Option ℕ → Option (ℕ × ℕ) → Option (ℕ × ℕ)
or_later table None later = later
or_later table (Some row) later = Some (table, row)

-- The least table, from 1 to 6, and its least row that breaks a rule.
abbrev pub first_illegal : Tables → Option (ℕ × ℕ)
first_illegal tables = or_later 1 (bad_user tables tables.users)
    (or_later 2 (first_bad exercise_may tables.exercises)
    (or_later 3 (first_bad (λ before row. extension_may tables row) tables.extensions)
    (or_later 4 (first_bad (submission_may tables) tables.submissions)
    (or_later 5 (first_bad (grade_may tables) tables.grades)
    (or_later 6 (first_bad (λ before row. order_may tables row) tables.orders) None)))))

-- No row breaks a rule.
abbrev pub IsLegal : Tables → Type 0
IsLegal tables = first_illegal tables ≡ None
