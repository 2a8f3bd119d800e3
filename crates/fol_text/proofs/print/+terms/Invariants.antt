use Rattle.std.proofs.Common.{◌≡◌, ◌==◌, ◌++◌, ◌∷◌, [], take, map}
use Rattle.fol_text.specs.Printed.{term_text, separated}
use Rattle.fol_text.proofs.print.+terms.Given as goal

abbrev pub invariant-add_terms-loop-term : goal.invariant-add_terms-loop-term
invariant-add_terms-loop-term l = record {
  text : l.text ≡ l.fn.text ++ separated (44 ∷ []) (map term_text (take l.term-index l.terms));
  first : l.is_first ≡ (l.term-index == 0);
}
