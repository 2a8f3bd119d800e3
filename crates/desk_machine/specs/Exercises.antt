-- The versions of an exercise.
use Rattle.std.specs.Prelude.{ℕ, Bool, ◌&&◌, ◌==◌, List, [], filter, reverse, length, Some, None}
use Rattle.std.specs.Str.{bytes_eq}
use Rattle.std.specs.List.{find}
use Rattle.std.specs.declared.option.Option.{Option}
use Rattle.desk_keeper.specs.declared.rows.ExerciseRow.{ExerciseRow}

-- The row is a version of the exercise of this name.
abbrev pub is_named : List ℕ → ExerciseRow → Bool
is_named name row = bytes_eq row.name name

-- The versions of the exercise, in the order in which they were set.
abbrev pub versions : List ExerciseRow → List ℕ → List ExerciseRow
versions rows name = filter (is_named name) rows

-- The latest version of the exercise.
abbrev pub latest : List ExerciseRow → List ℕ → Option ExerciseRow
latest rows name = find (is_named name) (reverse rows)

-- The version of the exercise with this number.
abbrev pub version_of : List ExerciseRow → List ℕ → ℕ → Option ExerciseRow
version_of rows name version = find (λ row. bytes_eq row.name name && row.version == version) rows

abbrev pub text_in : Option ExerciseRow → List ℕ
text_in None = []
text_in (Some row) = row.text

-- The text of the version with this number; empty where there is none.
abbrev pub text_of : List ExerciseRow → List ℕ → ℕ → List ℕ
text_of rows name version = text_in (version_of rows name version)
