use Rattle.std.proofs.Common.{◌≡◌, ◌++◌, take}
use Rattle.boole_table.specs.PrintedTable.{rows_text}
use Rattle.boole_table.proofs.print.add_rows.Given as goal

abbrev pub invariant-loop-row : goal.invariant-loop-row
invariant-loop-row l = l.text ≡ l.fn.text ++ rows_text (take l.row-index l.rows)
