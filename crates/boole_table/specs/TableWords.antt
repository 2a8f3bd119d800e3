-- The values of sentences in 64 rows of a table: a word for each sentence, with a bit for each row.
use Rattle.std.specs.Prelude.{◌≡◌, ℕ, ◌+◌, ◌<◌, Bool, List, length, map}
use Rattle.bit_sets.specs.BitSets.{has}
use Rattle.fol_core.specs.declared.sent.Sent.{Sent}
use Rattle.taut_con.specs.Rows.{row_values}
use Rattle.boole_table.specs.declared.table.TableRow.{TableRow}
use Rattle.boole_table.specs.StandardTable.{values_under}

-- The bits of the words at the place.
abbrev pub cells_at : List ℕ → ℕ → List Bool
cells_at words k = map (λ word. has word k) words

-- In each of the 64 rows from `base` on, the words' bits are the values of the sentences.
pub record AreWords (ls : List Sent) (ss : List Sent) (base : ℕ) (words : List ℕ) : Type 0 where
  pub in_row : (k : ℕ) → k < 64 → cells_at words k ≡ values_under ls (row_values (length ls) (base + k)) ss

-- The row with the values of n letters in row r, and the bits of the words at the place.
abbrev pub row_by_words : ℕ → ℕ → List ℕ → ℕ → TableRow
row_by_words n r words k = record { letters = row_values n r; sentences = cells_at words k }
