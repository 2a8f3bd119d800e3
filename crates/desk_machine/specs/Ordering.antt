-- Orders to grade submissions by the latest version of their exercise.
use Rattle.std.specs.Prelude.{ℕ, ◌+◌, ◌-◌, ◌^◌, Bool, not, ◌&&◌, ◌==◌, nat_le, min, List, [], ◌∷◌, length, Result, Ok, Err, Some, None, if◌then◌else◌}
use Rattle.std.specs.Str.{bytes_eq}
use Rattle.std.specs.List.{list_any}
use Rattle.std.specs.declared.option.Option.{Option}
use Rattle.desk_keeper.specs.declared.rows.ExerciseRow.{ExerciseRow}
use Rattle.desk_keeper.specs.declared.rows.OrderRow.{OrderRow}
use Rattle.desk_keeper.specs.declared.rows.SubmissionRow.{SubmissionRow}
use Rattle.desk_keeper.specs.declared.rows.Row.TheVariants.{Order}
use Rattle.desk_keeper.specs.declared.tables.Tables.{Tables}
use Rattle.desk_machine.specs.declared.answers.Ordered.{Ordered}
use Rattle.desk_machine.specs.declared.faults.RegradeFault.{RegradeFault}
use Rattle.desk_machine.specs.declared.faults.RegradeFault.TheVariants.{UnknownToken, Role, NoExercise}
use Rattle.desk_machine.specs.declared.plans.Planned.{Planned}
use Rattle.desk_machine.specs.declared.users.Known.{Known}
use Rattle.desk_machine.specs.Exercises.{latest}
use Rattle.desk_machine.specs.Plans.{appends, says}
use Rattle.desk_machine.specs.Users.{is_teacher}

-- The order is for the submission of this exercise with this ticket, and for this version.
abbrev pub is_for : List ℕ → ℕ → ℕ → OrderRow → Bool
is_for name version ticket order = bytes_eq order.name name && order.version == version && nat_le ticket order.upto

-- The submission is one to this exercise, has another version of its own, and stands in no order of this version.
abbrev pub is_unordered : List OrderRow → List ℕ → ℕ → ℕ → SubmissionRow → Bool
is_unordered orders name version ticket row = bytes_eq row.name name && not (row.version == version) && not (list_any (is_for name version ticket) orders)

-- The tickets of such submissions among these, of which the first has this ticket.
abbrev pub unordered_from : List OrderRow → List ℕ → ℕ → ℕ → List SubmissionRow → List ℕ
unordered_from orders name version ticket [] = []
unordered_from orders name version ticket (row ∷ rows) = if is_unordered orders name version ticket row
    then ticket ∷ unordered_from orders name version (ticket + 1) rows else unordered_from orders name version (ticket + 1) rows

-- How many such submissions there are, as far as 32 bits go.
abbrev pub unordered : Tables → List ℕ → ℕ → ℕ
unordered tables name version = min (length (unordered_from tables.orders name version 1 tables.submissions)) (2 ^ 32 - 1)

-- An order is kept where there is such a submission. It is for the submissions of now.
abbrev pub orders_version : Tables → List ℕ → ℕ → ℕ → Planned (Result Ordered RegradeFault)
orders_version tables name version count = if count == 0 then says (Ok (record { ordered = 0; version = version }))
    else appends (Ok (record { ordered = count; version = version })) (Order (record { name = name; version = version; upto = length tables.submissions }))

abbrev pub orders_latest : Option ExerciseRow → Tables → List ℕ → Planned (Result Ordered RegradeFault)
orders_latest None tables name = says (Err NoExercise)
orders_latest (Some last) tables name = orders_version tables name last.version (unordered tables name last.version)

-- A teacher orders the submissions to an exercise to be graded by its latest version.
abbrev pub plan_regrade : Option Known → Tables → List ℕ → Planned (Result Ordered RegradeFault)
plan_regrade None tables name = says (Err UnknownToken)
plan_regrade (Some known) tables name = if is_teacher known.role then orders_latest (latest tables.exercises name) tables name else says (Err Role)
