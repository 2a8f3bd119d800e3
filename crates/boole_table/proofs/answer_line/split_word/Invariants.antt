use Rattle.boole_table.proofs.Numbering.{BlankFree}
use Rattle.boole_table.proofs.answer_line.split_word.Given as goal

abbrev pub invariant-loop-place : goal.invariant-loop-place
invariant-loop-place l = BlankFree l.text l.place
