use Rattle.std.proofs.Common.{◌≡◌, take, true}
use Rattle.std.specs.List.{list_all}
use Rattle.fol_core.specs.Bound.{words}
use Rattle.fol_core.specs.Closed.{is_bound}
use Rattle.fol_core.specs.Statements.{grounded}
use Rattle.fol_core.proofs.closed.+bound.Given as goal

abbrev pub invariant-are_terms_bound-loop-term : goal.invariant-are_terms_bound-loop-term
invariant-are_terms_bound-loop-term l =
    (list_all (is_bound (words l.bound)) (take l.term-index l.terms) ≡ true)
    × (list_all (grounded (words l.bound)) (take l.term-index l.terms) ≡ true)
