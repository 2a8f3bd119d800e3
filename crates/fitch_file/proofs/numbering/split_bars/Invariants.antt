use Rattle.std.proofs.Common.{◌≡◌, ◌+◌, ◌≤◌, length}
use Rattle.fitch_file.specs.Numbering.{bars, after_bars}
use Rattle.fitch_file.proofs.numbering.split_bars.Given as goal

abbrev pub invariant-loop-rest : goal.invariant-loop-rest
invariant-loop-rest l = record {
  counted : l.count + bars l.rest ≡ bars l.text;
  behind : after_bars l.rest ≡ after_bars l.text;
  few : l.count + length l.rest ≤ length l.text;
}

abbrev pub decreases-loop-rest : goal.decreases-loop-rest
decreases-loop-rest l = length l.rest
