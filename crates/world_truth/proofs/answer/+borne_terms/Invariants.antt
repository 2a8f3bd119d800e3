use Rattle.std.proofs.Common.{◌≡◌, take, true}
use Rattle.std.specs.List.{list_all}
use Rattle.world_truth.specs.Answers.{has_block}
use Rattle.world_truth.proofs.answer.+borne_terms.Given as goal

abbrev pub invariant-have_blocks-loop-term : goal.invariant-have_blocks-loop-term
invariant-have_blocks-loop-term l = list_all (has_block l.w) (take l.term-index l.terms) ≡ true
