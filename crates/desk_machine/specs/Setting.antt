-- Setting an exercise.
use Rattle.std.specs.Prelude.{ℕ, ◌+◌, true, false, nat_lt, List, length, Result, Ok, Err, Some, None, if◌then◌else◌}
use Rattle.std.specs.Str.{bytes_eq}
use Rattle.std.specs.declared.option.Option.{Option}
use Rattle.desk_forms.specs.Words.{exercise_name}
use Rattle.desk_keeper.specs.declared.rows.ExerciseRow.{ExerciseRow}
use Rattle.desk_keeper.specs.declared.rows.Settings.{Settings}
use Rattle.desk_keeper.specs.declared.rows.Row.TheVariants.{Exercise}
use Rattle.desk_machine.specs.declared.answers.Version.{Version}
use Rattle.desk_machine.specs.declared.faults.SetFault.{SetFault}
use Rattle.desk_machine.specs.declared.faults.SetFault.TheVariants.{UnknownToken, Role, BadName, Text, TooManyVersions}
use Rattle.desk_machine.specs.declared.grader.Refusal.{Refusal}
use Rattle.desk_machine.specs.declared.plans.Planned.{Planned}
use Rattle.desk_machine.specs.declared.users.Known.{Known}
use Rattle.desk_machine.specs.Exercises.{latest, versions}
use Rattle.desk_machine.specs.Plans.{appends, says}
use Rattle.desk_machine.specs.Rules.{Rules}
use Rattle.desk_machine.specs.Users.{is_teacher}

-- A version more, where there is room for it.
abbrev pub adds_version : List ExerciseRow → List ℕ → List ℕ → Settings → Planned (Result Version SetFault)
adds_version rows name text settings = if nat_lt (length rows) 10000
    then appends (Ok (record { number = length (versions rows name) + 1; fresh = true }))
    (Exercise (record { name = name; version = length (versions rows name) + 1; text = text; settings = settings }))
    else says (Err (TooManyVersions 10000))

-- The text of the latest version again is no version more.
abbrev pub adds_unless_latest : Option ExerciseRow → List ExerciseRow → List ℕ → List ℕ → Settings → Planned (Result Version SetFault)
adds_unless_latest None rows name text settings = adds_version rows name text settings
adds_unless_latest (Some last) rows name text settings = if bytes_eq last.text text
    then says (Ok (record { number = last.version; fresh = false })) else adds_version rows name text settings

-- The text's settings, or why it has none.
abbrev pub sets : Result Settings Refusal → List ExerciseRow → List ℕ → List ℕ → Planned (Result Version SetFault)
sets (Err refusal) rows name text = says (Err (Text refusal.code refusal.field))
sets (Ok settings) rows name text = adds_unless_latest (latest rows name) rows name text settings

-- A teacher sets the exercise of this name.
abbrev pub plan_set : Rules → List ℕ → Option Known → List ExerciseRow → List ℕ → List ℕ → Planned (Result Version SetFault)
plan_set rules zone None rows name text = says (Err UnknownToken)
plan_set rules zone (Some known) rows name text = if is_teacher known.role
    then (if exercise_name name then sets (rules.settings zone text) rows name text else says (Err BadName))
    else says (Err Role)
