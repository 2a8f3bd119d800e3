use Rattle.std.proofs.Common.{◌≡◌, drop}
use Rattle.taut_con.specs.Values.{valuation}
use Rattle.boole_table.proofs.rows.value_beside.Given as goal

abbrev pub invariant-loop-place : goal.invariant-loop-place
invariant-loop-place l = valuation (drop l.place l.columns) (drop l.place l.values) l.letter ≡ valuation l.columns l.values l.letter
