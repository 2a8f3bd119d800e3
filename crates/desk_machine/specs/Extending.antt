-- Extensions of due moments.
use Rattle.std.specs.Prelude.{ℕ, Bool, true, false, ◌&&◌, ◌==◌, List, reverse, Result, Ok, Err, Some, None, if◌then◌else◌}
use Rattle.std.specs.Str.{bytes_eq}
use Rattle.std.specs.List.{find}
use Rattle.std.specs.Option.{option_map, is_some}
use Rattle.std.specs.declared.option.Option.{Option}
use Rattle.desk_keeper.specs.declared.rows.ExerciseRow.{ExerciseRow}
use Rattle.desk_keeper.specs.declared.rows.ExtensionRow.{ExtensionRow}
use Rattle.desk_keeper.specs.declared.rows.Row.TheVariants.{Extension}
use Rattle.desk_keeper.specs.declared.tables.Tables.{Tables}
use Rattle.desk_machine.specs.declared.faults.ExtendFault.{ExtendFault}
use Rattle.desk_machine.specs.declared.faults.ExtendFault.TheVariants.{UnknownToken, Role, NoExercise, NoStudent, BadDue}
use Rattle.desk_machine.specs.declared.grader.DueFault.{DueFault}
use Rattle.desk_machine.specs.declared.plans.Planned.{Planned}
use Rattle.desk_machine.specs.declared.users.Known.{Known}
use Rattle.desk_machine.specs.Exercises.{latest}
use Rattle.desk_machine.specs.Plans.{appends, says}
use Rattle.desk_machine.specs.Rules.{Rules}
use Rattle.desk_machine.specs.Users.{has_student, is_teacher}

-- The row extends the exercise of this name for the student.
abbrev pub extends : List ℕ → ℕ → ExtensionRow → Bool
extends name student row = bytes_eq row.name name && row.student == student

-- The student's last extension for the exercise.
abbrev pub last_extension : List ExtensionRow → List ℕ → ℕ → Option ExtensionRow
last_extension rows name student = find (extends name student) (reverse rows)

abbrev pub is_due : ℕ → Option ExtensionRow → Bool
is_due due None = false
is_due due (Some row) = row.due == due

-- The moment, which is kept unless the last extension is alike.
abbrev pub extends_to : Result ℕ DueFault → List ExtensionRow → List ℕ → ℕ → Planned (Result ℕ ExtendFault)
extends_to (Err fault) rows name student = says (Err BadDue)
extends_to (Ok due) rows name student = if is_due due (last_extension rows name student) then says (Ok due)
    else appends (Ok due) (Extension (record { name = name; student = student; due = due }))

-- A teacher sets another due moment for a student and an exercise.
abbrev pub plan_extend : Rules → List ℕ → Option Known → Tables → List ℕ → ℕ → List ℕ → Planned (Result ℕ ExtendFault)
plan_extend rules zone None tables name student civil = says (Err UnknownToken)
plan_extend rules zone (Some known) tables name student civil = if is_teacher known.role
    then (if is_some (latest tables.exercises name)
    then (if has_student tables.users student then extends_to (rules.due zone civil) tables.extensions name student else says (Err NoStudent))
    else says (Err NoExercise))
    else says (Err Role)
