-- The truth table of sentences.
use Rattle.std.specs.Prelude.{ℕ, Bool, List, length, map}
use Rattle.fol_core.specs.declared.sent.Sent.{Sent}
use Rattle.taut_con.specs.Letters.{letters}
use Rattle.taut_con.specs.Rows.{row_values, rows}
use Rattle.taut_con.specs.Values.{valuation, value}
use Rattle.boole_table.specs.declared.table.TableRow.{TableRow}
use Rattle.boole_table.specs.declared.table.Table.{Table}

-- The values of the sentences where each of the letters has the value beside it.
abbrev pub values_under : List Sent → List Bool → List Sent → List Bool
values_under ls bs ss = map (value (valuation ls bs)) ss

-- Row r of the table with these letters and sentences: the letters' values in that row, and the sentences' values under them.
abbrev pub standard_row : List Sent → List Sent → ℕ → TableRow
standard_row ls ss r = record { letters = row_values (length ls) r; sentences = values_under ls (row_values (length ls) r) ss }

-- All rows of the table with these letters and sentences, in the standard order.
abbrev pub standard_rows : List Sent → List Sent → List TableRow
standard_rows ls ss = map (standard_row ls ss) (rows (length ls))

-- The table of the sentences: their letters in the order of first occurrence, and all rows in the standard order.
abbrev pub standard_table : List Sent → Table
standard_table ss = record { letters = letters ss; sentences = ss; rows = standard_rows (letters ss) ss }
