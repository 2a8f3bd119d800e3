use Rattle.std.proofs.Common.{◌*◌}
use Rattle.taut_con.specs.Compiled.{refutes_in_row}
use Rattle.taut_con.proofs.Searching.{AreLeft}
use Rattle.taut_con.proofs.consequence.search_rows.Given as goal

abbrev pub invariant-loop-word : goal.invariant-loop-word
invariant-loop-word l = AreLeft (refutes_in_row l.formulas l.conclusion l.letters) l.letters (64 * l.word)
