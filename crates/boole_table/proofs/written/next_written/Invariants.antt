use Rattle.std.proofs.Common.{◌≡◌, ◌+◌, ◌≤◌, length}
use Rattle.std.specs.Str.Lines.{lines}
use Rattle.boole_table.specs.WrittenLines.{written_from}
use Rattle.boole_table.proofs.written.next_written.Given as goal

abbrev pub invariant-loop-line : goal.invariant-loop-line
invariant-loop-line l = record {
  are : written_from (l.place + 1) (lines l.rest) ≡ written_from (l.before + 1) (lines l.text);
  fits : l.place + length l.rest ≤ l.before + length l.text;
  less : length l.rest ≤ length l.text;
}

abbrev pub decreases-loop-line : goal.decreases-loop-line
decreases-loop-line l = length l.rest
