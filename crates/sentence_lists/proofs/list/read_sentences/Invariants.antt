use Rattle.std.proofs.Common.{◌+◌, ◌≤◌, length}
use Rattle.std.specs.Str.Lines.{lines}
use Rattle.sentence_lists.proofs.Going.{Going}
use Rattle.sentence_lists.proofs.list.read_sentences.Given as goal

abbrev pub invariant-loop-line : goal.invariant-loop-line
invariant-loop-line l = record {
  counted : l.place + length l.rest ≤ length l.text;
  going : Going l.most (lines l.text) (l.place + 1) (lines l.rest) l.sentences;
}

abbrev pub decreases-loop-line : goal.decreases-loop-line
decreases-loop-line l = length l.rest
