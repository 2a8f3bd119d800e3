use Rattle.std.proofs.Common.{◌≡◌, ◌==◌, ◌++◌, ◌∷◌, [], take, map}
use Rattle.fol_text.specs.Printed.{printed, separated}
use Rattle.boole_table.proofs.print.add_sentences.Given as goal

abbrev pub invariant-loop-sentence : goal.invariant-loop-sentence
invariant-loop-sentence l = record {
  text : l.text ≡ l.fn.text ++ separated (32 ∷ 59 ∷ 32 ∷ []) (map printed (take l.sentence-index l.sentences));
  first : l.is_first ≡ (l.sentence-index == 0);
}
