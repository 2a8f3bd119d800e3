use Rattle.std.proofs.Common.{◌≡◌, ◌+◌, ◌≤◌, length}
use Rattle.std.specs.Str.Lines.{lines}
use Rattle.world_text.specs.Lines.{behind_header}
use Rattle.world_text.specs.WorldText.{fault_from, world_fault}
use Rattle.world_text.proofs.reading.after_header.Given as goal

abbrev pub invariant-loop-line : goal.invariant-loop-line
invariant-loop-line l = record {
  fault : world_fault l.text ≡ fault_from (l.place + 1) (lines l.rest);
  behind : behind_header (lines l.text) ≡ behind_header (lines l.rest);
  within : l.place + length l.rest ≤ length l.text;
}

abbrev pub decreases-loop-line : goal.decreases-loop-line
decreases-loop-line l = length l.rest
