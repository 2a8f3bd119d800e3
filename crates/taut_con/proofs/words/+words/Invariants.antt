use Rattle.std.proofs.Common.{take}
use Rattle.std.specs.List.{list_all, list_any}
use Rattle.taut_con.specs.Words.{AreRows, value_in_row}
use Rattle.taut_con.proofs.words.+words.Given as goal

abbrev pub invariant-rows_where_all_true-loop-s : goal.invariant-rows_where_all_true-loop-s
invariant-rows_where_all_true-loop-s l = AreRows (λ r. list_all (λ s. value_in_row l.letters s r) (take l.s-index l.sentences)) l.base l.rows.bits

abbrev pub invariant-rows_where_some_true-loop-s : goal.invariant-rows_where_some_true-loop-s
invariant-rows_where_some_true-loop-s l = AreRows (λ r. list_any (λ s. value_in_row l.letters s r) (take l.s-index l.sentences)) l.base l.rows.bits
