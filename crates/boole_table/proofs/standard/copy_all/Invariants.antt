use Rattle.std.proofs.Common.{◌≡◌, take}
use Rattle.boole_table.proofs.standard.copy_all.Given as goal

abbrev pub invariant-loop-sentence : goal.invariant-loop-sentence
invariant-loop-sentence l = l.copies ≡ take l.sentence-index l.sentences
