use Rattle.std.specs.List.{list_all, list_any}
use Rattle.taut_con.specs.Words.{value_in_row}
use Rattle.taut_con.proofs.RowBits.{rows_all_more, rows_some_more, rows_whole}
use Rattle.taut_con.proofs.words.+words.Goals as goal

pub rows_where_all_true-loop-s-preserved : goal.rows_where_all_true-loop-s-preserved
rows_where_all_true-loop-s-preserved t c =
    rows_all_more (λ r s. value_in_row c.args.letters.now s r) c.args.sentences.now c.loop-s.s-index c.s-item.result c.args.base c.loop-s.rows.bits c.rows_where_true.result.bits c.intersection-rows.result.bits
    c.loop-s-test.true c.s-item.is c.loop-s.invariant c.rows_where_true.ensures.rows c.intersection-rows.ensures.value

pub rows_where_some_true-loop-s-preserved : goal.rows_where_some_true-loop-s-preserved
rows_where_some_true-loop-s-preserved t c =
    rows_some_more (λ r s. value_in_row c.args.letters.now s r) c.args.sentences.now c.loop-s.s-index c.s-item.result c.args.base c.loop-s.rows.bits c.rows_where_true.result.bits c.union-rows.result.bits
    c.loop-s-test.true c.s-item.is c.loop-s.invariant c.rows_where_true.ensures.rows c.union-rows.ensures.value

pub rows_where_all_true-returns : goal.rows_where_all_true-returns
rows_where_all_true-returns t c = record {
  rows = rows_whole (λ r xs. list_all (λ s. value_in_row c.args.letters.now s r) xs) c.args.sentences.now c.loop-s.s-index c.args.base c.loop-s.rows.bits c.loop-s-test.false c.loop-s.invariant;
}

pub rows_where_some_true-returns : goal.rows_where_some_true-returns
rows_where_some_true-returns t c = record {
  rows = rows_whole (λ r xs. list_any (λ s. value_in_row c.args.letters.now s r) xs) c.args.sentences.now c.loop-s.s-index c.args.base c.loop-s.rows.bits c.loop-s-test.false c.loop-s.invariant;
}
