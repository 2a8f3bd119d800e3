use Rattle.std.proofs.Common.{◌≡◌, take, false}
use Rattle.std.specs.List.{list_any}
use Rattle.fol_core.specs.Subst.{occurs_in_term}
use Rattle.fol_core.proofs.occurrence.+in_term.Given as goal

abbrev pub invariant-is_in_terms-loop-term : goal.invariant-is_in_terms-loop-term
invariant-is_in_terms-loop-term l = list_any (occurs_in_term l.name) (take l.term-index l.terms) ≡ false
