use Rattle.std.proofs.Common.{◌≡◌, take}
use Rattle.std.specs.List.{flat_map}
use Rattle.tableau_laws.specs.Terms.{parts_of_term}
use Rattle.tableau_branch.specs.inside.Gathered.{gathered}
use Rattle.tableau_branch.proofs.terms.+gather_term.Given as goal

abbrev pub invariant-gather_terms-loop-arg : goal.invariant-gather_terms-loop-arg
invariant-gather_terms-loop-arg l = l.terms.items ≡ gathered l.fn.terms.items (flat_map parts_of_term (take l.arg-index l.args))
