use Rattle.std.proofs.Common.{◌≡◌, ◌+◌, ◌++◌, map}
use Rattle.std.specs.List.{range_with_len}
use Rattle.boole_table.specs.StandardTable.{standard_row}
use Rattle.boole_table.proofs.standard.add_rows.Given as goal

abbrev pub invariant-loop-place : goal.invariant-loop-place
invariant-loop-place l = l.rows ≡ l.fn.rows ++ map (standard_row l.letters l.sentences) (range_with_len (l.before + 1) l.place)
