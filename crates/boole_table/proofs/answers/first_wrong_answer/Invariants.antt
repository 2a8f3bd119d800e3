use Rattle.std.proofs.Common.{◌≡◌, ◌+◌, drop}
use Rattle.boole_table.specs.Verdict.{wrong_answers}
use Rattle.boole_table.proofs.answers.first_wrong_answer.Given as goal

abbrev pub invariant-loop-index : goal.invariant-loop-index
invariant-loop-index l = wrong_answers l.standard l.answers (l.index + 1) (drop l.index l.questions) ≡ wrong_answers l.standard l.answers 1 l.questions
