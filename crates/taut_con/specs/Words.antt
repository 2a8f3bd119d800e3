-- The values of sentences and of formulas in 64 rows of a table, one bit each.
use Rattle.std.specs.Prelude.{◌≡◌, ℕ, ◌+◌, ◌<◌, Bool, List, length}
use Rattle.bit_sets.specs.BitSets.{has}
use Rattle.fol_core.specs.declared.sent.Sent.{Sent}
use Rattle.taut_con.specs.Rows.{row_values}
use Rattle.taut_con.specs.Values.{valuation, value}

-- The value of the sentence in row r of the table of the letters.
abbrev pub value_in_row : List Sent → Sent → ℕ → Bool
value_in_row ls s r = value (valuation ls (row_values (length ls) r)) s

-- Of the 64 rows from `base` on, the bits have just those of which the function is true: bit k is that of row `base + k`.
abbrev pub AreRows : (ℕ → Bool) → ℕ → ℕ → Type 0
AreRows f base bits = (k : ℕ) → k < 64 → has bits k ≡ f (base + k)
