-- A name and its number, as they are printed.
use Rattle.std.specs.Prelude.{ℕ, List, ◌++◌, codes}
use Rattle.std.specs.Fmt.{decimal}

-- A name with a number behind it.
abbrev pub with_number : List ℕ → ℕ → List ℕ
with_number name n = name ++ codes " " ++ decimal n
