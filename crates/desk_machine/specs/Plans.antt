-- What is planned: an answer, and rows that are appended.
use Rattle.std.specs.Prelude.{List, [], ◌∷◌, Result, Err}
use Rattle.desk_keeper.specs.declared.rows.Row.{Row}
use Rattle.desk_machine.specs.declared.plans.Planned.{Planned}

-- The answer, and nothing changes.
abbrev pub says : {T : Type 0} → T → Planned T
says answer = record { answer = answer; rows = [] }

-- The answer, and one row is appended.
abbrev pub appends : {T : Type 0} → T → Row → Planned T
appends answer row = record { answer = answer; rows = row ∷ [] }
