-- The first row of a table that may not stand behind those before it.
use Rattle.std.specs.Prelude.{ℕ, ◌+◌, Bool, List, [], ◌∷◌, ◌++◌, length, Some, None, if◌then◌else◌}
use Rattle.std.specs.declared.option.Option.{Option}

-- The place, from 1, of the first of these rows that may not stand behind those before it.
abbrev pub first_bad_behind : {T : Type 0} → (List T → T → Bool) → List T → List T → Option ℕ
first_bad_behind may before [] = None
first_bad_behind may before (row ∷ rows) = if may before row then first_bad_behind may (before ++ row ∷ []) rows else Some (length before + 1)

-- The place, from 1, of the first row of the table that may not stand behind those before it.
abbrev pub first_bad : {T : Type 0} → (List T → T → Bool) → List T → Option ℕ
first_bad may rows = first_bad_behind may [] rows
