use Rattle.std.proofs.Common.{length}
use Rattle.play_text.proofs.Numbering.{Numbered}
use Rattle.play_text.proofs.lines.numbers_in.Given as goal

abbrev pub invariant-loop-word : goal.invariant-loop-word
invariant-loop-word l = Numbered l.text l.rest l.choices

abbrev pub decreases-loop-word : goal.decreases-loop-word
decreases-loop-word l = length l.rest
