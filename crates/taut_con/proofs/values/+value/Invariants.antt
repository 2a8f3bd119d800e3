use Rattle.std.proofs.Common.{◌≡◌, take, true, false}
use Rattle.std.specs.List.{list_all, list_any}
use Rattle.taut_con.specs.Values.{value, valuation}
use Rattle.taut_con.proofs.values.+value.Given as goal

abbrev pub invariant-are_all_true-loop-s : goal.invariant-are_all_true-loop-s
invariant-are_all_true-loop-s l = list_all (value (valuation l.letters l.values)) (take l.s-index l.sentences) ≡ true

abbrev pub invariant-is_some_true-loop-s : goal.invariant-is_some_true-loop-s
invariant-is_some_true-loop-s l = list_any (value (valuation l.letters l.values)) (take l.s-index l.sentences) ≡ false
