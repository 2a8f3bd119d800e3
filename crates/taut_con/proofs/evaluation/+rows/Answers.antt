use Rattle.std.proofs.Common.{◌+◌}
use Rattle.std.specs.List.{list_all, list_any}
use Rattle.bit_sets.specs.BitSets.{has}
use Rattle.taut_con.specs.Rows.{row_values}
use Rattle.taut_con.specs.Compiled.{formula_value}
use Rattle.taut_con.proofs.Compiling.{and_in_row, or_in_row}
use Rattle.taut_con.proofs.RowBits.{rows_all_more, rows_some_more, rows_whole}
use Rattle.taut_con.proofs.evaluation.+rows.Goals as goal

pub rows_where-returns-in-And : goal.rows_where-returns-in-And
rows_where-returns-in-And t c = record {
  rows = λ k l. and_in_row (row_values c.args.letters (c.args.base + k)) c.args.formula.now _ c.as_slice.result.now (has c.rows_where_all.result.bits k) c.in-And.is c.as_slice.ensures.value (c.rows_where_all.ensures.rows k l);
}

pub rows_where-returns-in-Or : goal.rows_where-returns-in-Or
rows_where-returns-in-Or t c = record {
  rows = λ k l. or_in_row (row_values c.args.letters (c.args.base + k)) c.args.formula.now _ c.as_slice-in-Or.result.now (has c.rows_where_some.result.bits k) c.in-Or.is c.as_slice-in-Or.ensures.value (c.rows_where_some.ensures.rows k l);
}

pub rows_where_all-loop-formula-preserved : goal.rows_where_all-loop-formula-preserved
rows_where_all-loop-formula-preserved t c =
    rows_all_more (λ r. formula_value (row_values c.args.letters r)) c.args.formulas.now c.loop-formula.formula-index c.formula-item.result c.args.base c.loop-formula.rows.bits c.rows_where.result.bits c.intersection-rows.result.bits
    c.loop-formula-test.true c.formula-item.is c.loop-formula.invariant c.rows_where.ensures.rows c.intersection-rows.ensures.value

pub rows_where_some-loop-formula-preserved : goal.rows_where_some-loop-formula-preserved
rows_where_some-loop-formula-preserved t c =
    rows_some_more (λ r. formula_value (row_values c.args.letters r)) c.args.formulas.now c.loop-formula.formula-index c.formula-item.result c.args.base c.loop-formula.rows.bits c.rows_where.result.bits c.union-rows.result.bits
    c.loop-formula-test.true c.formula-item.is c.loop-formula.invariant c.rows_where.ensures.rows c.union-rows.ensures.value

pub rows_where_all-returns : goal.rows_where_all-returns
rows_where_all-returns t c = record {
  rows = rows_whole (λ r xs. list_all (formula_value (row_values c.args.letters r)) xs) c.args.formulas.now c.loop-formula.formula-index c.args.base c.loop-formula.rows.bits c.loop-formula-test.false c.loop-formula.invariant;
}

pub rows_where_some-returns : goal.rows_where_some-returns
rows_where_some-returns t c = record {
  rows = rows_whole (λ r xs. list_any (formula_value (row_values c.args.letters r)) xs) c.args.formulas.now c.loop-formula.formula-index c.args.base c.loop-formula.rows.bits c.loop-formula-test.false c.loop-formula.invariant;
}
