use Rattle.std.proofs.Common.{◌≡◌, ◌++◌, map, drop}
use Rattle.boole_table.specs.RowLines.{value_byte, without_blanks}
use Rattle.boole_table.proofs.row_line.read_values.Given as goal

abbrev pub invariant-loop-place : goal.invariant-loop-place
invariant-loop-place l = without_blanks l.text ≡ map value_byte l.values ++ without_blanks (drop l.place l.text)
