-- How the terms of a branch are gathered: a private description.
use Rattle.std.specs.Prelude.{not, ◌&&◌, List, [], ◌∷◌, ◌++◌, if◌then◌else◌}
use Rattle.fol_core.specs.declared.sent.Term.{Term}
use Rattle.fol_core.specs.Statements.{ground}
use Rattle.tableau_laws.specs.Branch.{is_one_of}

-- The terms with one more last, where it is ground and isn't there yet.
abbrev pub with_one : List Term → Term → List Term
with_one seen t = if ground t && not (is_one_of t seen) then seen ++ t ∷ [] else seen

-- The same with several, one after the other.
abbrev pub gathered : List Term → List Term → List Term
gathered seen [] = seen
gathered seen (t ∷ ts) = gathered (with_one seen t) ts
