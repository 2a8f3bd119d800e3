use Rattle.std.proofs.Common.{◌≡◌, ◌+◌, ◌^◌, ◌<◌, map, take}
use Rattle.taut_con.specs.Rows.{row_values}
use Rattle.taut_con.specs.Values.{valuation}
use Rattle.boole_table.proofs.rows.row_number.Given as goal

abbrev pub invariant-loop-letter : goal.invariant-loop-letter
invariant-loop-letter l = record {
  below : l.number < 2 ^ l.letter-index;
  row : row_values l.letter-index (l.number + 1) ≡ map (valuation l.columns l.values) (take l.letter-index l.letters);
}
