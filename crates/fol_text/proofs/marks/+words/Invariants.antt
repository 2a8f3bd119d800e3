use Rattle.std.proofs.Common.{◌≡◌, ◌++◌, take, map}
use Rattle.fol_text.specs.Bound.{words}
use Rattle.fol_text.specs.Occurrences.{joined, word_marks}
use Rattle.fol_text.proofs.marks.+words.Given as goal

abbrev pub invariant-add_bound_terms-loop-term : goal.invariant-add_bound_terms-loop-term
invariant-add_bound_terms-loop-term l = l.marks ≡ l.fn.marks ++ joined (map (word_marks (words l.bound)) (take l.term-index l.terms))
