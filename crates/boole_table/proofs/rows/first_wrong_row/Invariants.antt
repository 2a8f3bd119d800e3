use Rattle.std.proofs.Common.{◌≡◌, ◌+◌, [], take, drop}
use Rattle.boole_table.specs.Verdict.{row_faults}
use Rattle.boole_table.specs.Judges.{seen_flags}
use Rattle.boole_table.proofs.rows.first_wrong_row.Given as goal

abbrev pub invariant-loop-index : goal.invariant-loop-index
invariant-loop-index l = record {
  faults : row_faults l.columns l.standard.letters.now l.standard.sentences.now (take l.index l.rows) (l.index + 1) (drop l.index l.rows) ≡ row_faults l.columns l.standard.letters.now l.standard.sentences.now [] 1 l.rows;
  seen : l.seen ≡ seen_flags l.columns l.standard.letters.now (take l.index l.rows);
}
