use Rattle.std.proofs.Common.{take}
use Rattle.std.specs.List.{list_all, list_any}
use Rattle.taut_con.specs.Rows.{row_values}
use Rattle.taut_con.specs.Compiled.{formula_value}
use Rattle.taut_con.specs.Words.{AreRows}
use Rattle.taut_con.proofs.evaluation.+rows.Given as goal

abbrev pub invariant-rows_where_all-loop-formula : goal.invariant-rows_where_all-loop-formula
invariant-rows_where_all-loop-formula l = AreRows (λ r. list_all (formula_value (row_values l.letters r)) (take l.formula-index l.formulas)) l.base l.rows.bits

abbrev pub invariant-rows_where_some-loop-formula : goal.invariant-rows_where_some-loop-formula
invariant-rows_where_some-loop-formula l = AreRows (λ r. list_any (formula_value (row_values l.letters r)) (take l.formula-index l.formulas)) l.base l.rows.bits
