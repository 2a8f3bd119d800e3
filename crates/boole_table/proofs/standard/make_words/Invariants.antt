use Rattle.std.proofs.Common.{take}
use Rattle.boole_table.specs.TableWords.{AreWords}
use Rattle.boole_table.proofs.standard.make_words.Given as goal

abbrev pub invariant-loop-sentence : goal.invariant-loop-sentence
invariant-loop-sentence l = AreWords l.letters (take l.sentence-index l.sentences) l.base l.words
