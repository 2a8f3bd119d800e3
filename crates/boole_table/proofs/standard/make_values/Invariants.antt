use Rattle.std.proofs.Common.{◌≡◌, map}
use Rattle.std.specs.List.{range_with_len}
use Rattle.taut_con.specs.Rows.{letter_in_row}
use Rattle.boole_table.proofs.standard.make_values.Given as goal

abbrev pub invariant-loop-index : goal.invariant-loop-index
invariant-loop-index l = l.values ≡ map (letter_in_row l.letters l.row) (range_with_len 1 l.index)
