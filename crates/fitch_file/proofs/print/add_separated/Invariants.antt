use Rattle.std.proofs.Common.{◌≡◌, ◌==◌, ◌++◌, ◌∷◌, [], take, map}
use Rattle.fol_text.specs.Printed.{separated}
use Rattle.fitch_file.specs.PrintedProof.{cite_text}
use Rattle.fitch_file.proofs.print.add_separated.Given as goal

abbrev pub invariant-loop-cite : goal.invariant-loop-cite
invariant-loop-cite l = record {
  text : l.text ≡ l.fn.text ++ separated (44 ∷ 32 ∷ []) (map cite_text (take l.cite-index l.cites));
  first : l.is_first ≡ (l.cite-index == 0);
}
