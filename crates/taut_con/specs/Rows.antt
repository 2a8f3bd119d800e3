-- The rows of a truth table, numbered from 1.
use Rattle.std.specs.Prelude.{ℕ, ◌-◌, ◌/◌, ◌%◌, ◌^◌, ◌==◌, Bool, List, map}
use Rattle.std.specs.List.{range_with_len}

-- `letter_in_row n r j`: in row r of n letters, letter j, from 1, is true where the number of the row's block of
-- `2 ^ (n - j)` rows, from 0, is even. So the last letter alternates fastest, and in row 1 all are true.
abbrev pub letter_in_row : ℕ → ℕ → ℕ → Bool
letter_in_row n r j = ((r - 1) / (2 ^ (n - j))) % 2 == 0

-- The values of the letters 1 to n in row r.
abbrev pub row_values : ℕ → ℕ → List Bool
row_values n r = map (letter_in_row n r) (range_with_len 1 n)

-- The rows of n letters: 1 to `2 ^ n`.
abbrev pub rows : ℕ → List ℕ
rows n = range_with_len 1 (2 ^ n)
