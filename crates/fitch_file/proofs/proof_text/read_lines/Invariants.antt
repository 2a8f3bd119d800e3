use Rattle.std.proofs.Common.{◌+◌, ◌≤◌, length}
use Rattle.std.specs.Str.Lines.{lines}
use Rattle.fitch_file.proofs.Going.{Going}
use Rattle.fitch_file.proofs.proof_text.read_lines.Given as goal

abbrev pub invariant-loop-line : goal.invariant-loop-line
invariant-loop-line l = record {
  counted : l.place + length l.rest ≤ l.header + length l.text;
  going : Going (l.header + 1) (lines l.text) (l.place + 1) (lines l.rest) l.lines;
}

abbrev pub decreases-loop-line : goal.decreases-loop-line
decreases-loop-line l = length l.rest
