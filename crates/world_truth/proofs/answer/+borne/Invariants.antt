use Rattle.std.proofs.Common.{◌≡◌, take, true}
use Rattle.std.specs.List.{list_all}
use Rattle.world_truth.specs.Answers.{all_borne}
use Rattle.world_truth.proofs.answer.+borne.Given as goal

abbrev pub invariant-are_borne_in_all-loop-part : goal.invariant-are_borne_in_all-loop-part
invariant-are_borne_in_all-loop-part l = list_all (all_borne l.w) (take l.part-index l.parts) ≡ true
