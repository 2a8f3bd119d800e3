use Rattle.std.proofs.Common.{◌≡◌, take, true}
use Rattle.std.specs.List.{list_all}
use Rattle.world_truth.specs.Answers.{in_blocks}
use Rattle.world_truth.proofs.answer.+blocks.Given as goal

abbrev pub invariant-are_of_blocks-loop-part : goal.invariant-are_of_blocks-loop-part
invariant-are_of_blocks-loop-part l = list_all in_blocks (take l.part-index l.parts) ≡ true
