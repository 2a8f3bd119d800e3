use Rattle.std.proofs.Common.{◌≡◌, take, true, false}
use Rattle.std.specs.List.{list_all, list_any}
use Rattle.worlds.specs.Assignments.{own_names}
use Rattle.world_truth.specs.Places.{given}
use Rattle.worlds.specs.Truth.{val}
use Rattle.world_truth.proofs.valuation.+value.Given as goal

abbrev pub invariant-are_all_true-loop-part : goal.invariant-are_all_true-loop-part
invariant-are_all_true-loop-part l = list_all (val l.world (given l.places (own_names l.world))) (take l.part-index l.parts) ≡ true

abbrev pub invariant-is_one_true-loop-part : goal.invariant-is_one_true-loop-part
invariant-is_one_true-loop-part l = list_any (val l.world (given l.places (own_names l.world))) (take l.part-index l.parts) ≡ false
