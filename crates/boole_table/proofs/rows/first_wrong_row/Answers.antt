use Rattle.std.proofs.Common.{◌+◌, take, length, ap, arith, true, false, ◌∙◌}
use Rattle.boole_table.specs.Verdict.{wrong_cells}
use Rattle.boole_table.proofs.Scanning.{seen_long, rows_long}
use Rattle.boole_table.proofs.WrongRows.{row_has, flag_says, repeated_first, right_cells, few_cells, cells_of_row, cell_first, row_right, flag_set}
use Rattle.boole_table.proofs.rows.first_wrong_row.Goals as goal

pub bounds-seen-number : goal.bounds-seen-number
bounds-seen-number c = omega (arith, ap length c.loop-index.invariant.seen, seen_long c.args.columns.now c.args.standard.letters.now (take c.loop-index.index c.args.rows.now), c.row_number-number.ensures.below)

pub bounds-seen-number-in-loop-index : goal.bounds-seen-number-in-loop-index
bounds-seen-number-in-loop-index c = omega (arith, ap length c.loop-index.invariant.seen, seen_long c.args.columns.now c.args.standard.letters.now (take c.loop-index.index c.args.rows.now), c.row_number-number.ensures.below)

pub bounds-standard-number : goal.bounds-standard-number
bounds-standard-number c = omega (arith, ap length c.requires.are, rows_long c.args.standard.letters.now c.args.standard.sentences.now, c.row_number-number.ensures.below)

pub returns-then-seen-number-clause-value : goal.returns-then-seen-number-clause-value
returns-then-seen-number-clause-value c =
    let v = row_has c.args.columns.now c.args.standard.letters.now c.index-rows-index.result c.as_slice.result.now c.row_number-number.result c.row_number-number.ensures.row c.as_slice.ensures.value in
    repeated_first c.args.columns.now c.args.standard.letters.now c.args.standard.sentences.now c.args.rows.now c.loop-index.index c.index-rows-index.result _ c.loop-index-test.true c.index-rows-index.is
    (flag_says c.args.columns.now c.args.standard.letters.now (take c.loop-index.index c.args.rows.now) c.loop-index.seen c.index-rows-index.result c.row_number-number.result true c.loop-index.invariant.seen c.row_number-number.ensures.below v c.if-seen-number.true)
    c.loop-index.invariant.faults

pub wrong_cell-requires : goal.wrong_cell-requires
wrong_cell-requires c =
    let v = row_has c.args.columns.now c.args.standard.letters.now c.index-rows-index.result c.as_slice.result.now c.row_number-number.result c.row_number-number.ensures.row c.as_slice.ensures.value in
    let r = right_cells c.args.columns.now c.args.standard.letters.now c.args.standard.sentences.now c.args.standard.rows.now c.index-rows-index.result c.index-standard-number.result c.row_number-number.result c.requires.are c.row_number-number.ensures.below v c.requires.among in
    few_cells c.args.columns.now c.index-rows-index.result.letters c.args.standard.sentences.now c.as_slice-in-loop-index-2.result.now (c.as_slice-in-loop-index-2.ensures.value ∙ r) c.requires.listed

pub returns-in-Some-clause-value : goal.returns-in-Some-clause-value
returns-in-Some-clause-value c =
    let v = row_has c.args.columns.now c.args.standard.letters.now c.index-rows-index.result c.as_slice.result.now c.row_number-number.result c.row_number-number.ensures.row c.as_slice.ensures.value in
    let r = right_cells c.args.columns.now c.args.standard.letters.now c.args.standard.sentences.now c.args.standard.rows.now c.index-rows-index.result c.index-standard-number.result c.row_number-number.result c.requires.are c.row_number-number.ensures.below v c.requires.among in
    let f = flag_says c.args.columns.now c.args.standard.letters.now (take c.loop-index.index c.args.rows.now) c.loop-index.seen c.index-rows-index.result c.row_number-number.result false c.loop-index.invariant.seen c.row_number-number.ensures.below v c.if-seen-number.false in
    cell_first c.args.columns.now c.args.standard.letters.now c.args.standard.sentences.now c.args.rows.now c.loop-index.index c.index-rows-index.result _ (wrong_cells (c.loop-index.index + 1) 1 c.as_slice-in-loop-index.result.now c.as_slice-in-loop-index-2.result.now) c.in-Some.verdict c.loop-index-test.true c.index-rows-index.is
    (cells_of_row c.args.columns.now c.args.standard.letters.now c.args.standard.sentences.now (take c.loop-index.index c.args.rows.now) (c.loop-index.index + 1) c.index-rows-index.result c.as_slice-in-loop-index.result.now c.as_slice-in-loop-index-2.result.now f c.as_slice-in-loop-index.ensures.value (c.as_slice-in-loop-index-2.ensures.value ∙ r))
    c.in-Some.ensures.value
    c.loop-index.invariant.faults

pub loop-index-preserved : goal.loop-index-preserved
loop-index-preserved c =
    let v = row_has c.args.columns.now c.args.standard.letters.now c.index-rows-index.result c.as_slice.result.now c.row_number-number.result c.row_number-number.ensures.row c.as_slice.ensures.value in
    let r = right_cells c.args.columns.now c.args.standard.letters.now c.args.standard.sentences.now c.args.standard.rows.now c.index-rows-index.result c.index-standard-number.result c.row_number-number.result c.requires.are c.row_number-number.ensures.below v c.requires.among in
    let f = flag_says c.args.columns.now c.args.standard.letters.now (take c.loop-index.index c.args.rows.now) c.loop-index.seen c.index-rows-index.result c.row_number-number.result false c.loop-index.invariant.seen c.row_number-number.ensures.below v c.if-seen-number.false in
    record {
      faults = row_right c.args.columns.now c.args.standard.letters.now c.args.standard.sentences.now c.args.rows.now c.loop-index.index c.index-rows-index.result _ (wrong_cells (c.loop-index.index + 1) 1 c.as_slice-in-loop-index.result.now c.as_slice-in-loop-index-2.result.now) c.loop-index-test.true c.index-rows-index.is
          (cells_of_row c.args.columns.now c.args.standard.letters.now c.args.standard.sentences.now (take c.loop-index.index c.args.rows.now) (c.loop-index.index + 1) c.index-rows-index.result c.as_slice-in-loop-index.result.now c.as_slice-in-loop-index-2.result.now f c.as_slice-in-loop-index.ensures.value (c.as_slice-in-loop-index-2.ensures.value ∙ r))
          c.in_default.ensures.value
          c.loop-index.invariant.faults;
      seen = flag_set c.args.columns.now c.args.standard.letters.now c.args.rows.now c.loop-index.index c.index-rows-index.result c.loop-index.seen c.row_number-number.result c.loop-index-test.true c.index-rows-index.is c.loop-index.invariant.seen c.row_number-number.ensures.below v;
    }
