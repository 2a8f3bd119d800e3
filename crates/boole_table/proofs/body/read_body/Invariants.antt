use Rattle.std.proofs.Common.{◌+◌, ◌≤◌, length}
use Rattle.std.specs.Str.Lines.{lines}
use Rattle.boole_table.specs.WrittenLines.{written_from}
use Rattle.boole_table.specs.Readers.{form_by}
use Rattle.boole_table.proofs.Filling.{Filled}
use Rattle.boole_table.proofs.body.read_body.Given as goal

abbrev pub invariant-loop-next : goal.invariant-loop-next
invariant-loop-next l = record {
  filled : Filled (form_by l.form) (written_from (l.before + 1) (lines l.text)) (written_from (l.place + 1) (lines l.rest)) l.body;
  fits : l.place + length l.rest ≤ l.before + length l.text;
  counted : length l.body.rows + length l.rest ≤ length l.text;
}

abbrev pub decreases-loop-next : goal.decreases-loop-next
decreases-loop-next l = length l.rest
