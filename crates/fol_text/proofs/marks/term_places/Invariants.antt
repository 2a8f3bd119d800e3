use Rattle.std.proofs.Common.{◌≡◌, ◌++◌, drop, false}
use Rattle.fol_text.specs.Occurrences.{term_places}
use Rattle.fol_text.proofs.marks.term_places.Given as goal

abbrev pub invariant-loop-placed : goal.invariant-loop-placed
invariant-loop-placed l = l.places ++ term_places l.is_quantified (drop l.placed-index l.tokens) ≡ term_places false l.tokens
