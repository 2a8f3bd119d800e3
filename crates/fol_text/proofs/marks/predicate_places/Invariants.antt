use Rattle.std.proofs.Common.{◌≡◌, ◌++◌, drop}
use Rattle.fol_text.specs.Occurrences.{predicate_places}
use Rattle.fol_text.proofs.marks.predicate_places.Given as goal

abbrev pub invariant-loop-placed : goal.invariant-loop-placed
invariant-loop-placed l = l.places ++ predicate_places (drop l.placed-index l.tokens) ≡ predicate_places l.tokens
