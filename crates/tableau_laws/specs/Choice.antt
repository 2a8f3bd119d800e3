-- Applications that may be made on a branch.
use Rattle.std.specs.Prelude.{Bool, true, false, not, ◌&&◌, List, [], ◌∷◌, ◌++◌, map, Ok, Err}
use Rattle.std.specs.List.{list_any, list_all}
use Rattle.fol_core.specs.declared.sent.Sent.{Sent}
use Rattle.fol_core.specs.Size.{within_limits}
use Rattle.tableau_laws.specs.declared.literal.Literal.{Literal as Signed}
use Rattle.tableau_laws.specs.Branch.{stands, new_of}

-- An application: what is to stand on each of the branches that it makes, from the left; and other lists each of which would
-- do as well, so that nothing is applied where one of them stands on the branch.
pub record Choice : Type 0 where
  pub adds : List (List Signed)
  pub others : List (List Signed)

-- An application with these branches, and with nothing else that would do.
abbrev pub simple : List (List Signed) → List Choice
simple lss = record { adds = lss; others = [] } ∷ []

-- All of these stand on the branch.
abbrev pub all_stand : List Signed → List Signed → Bool
all_stand b ls = list_all (stands b) ls

-- The sentence is within the limits of depth and nodes.
abbrev pub fits : Sent → Bool
fits s = elim (within_limits s) [ Ok u ↦ true | Err e ↦ false ]

-- All of these are within the limits.
abbrev pub all_fit : List Signed → Bool
all_fit ls = list_all (λ l. fits l.sentence) ls

-- An application is applicable on a branch where all sentences that it would add are within the limits, and none of its lists
-- stands whole on the branch: so each branch that it makes has a new sentence.
abbrev pub is_applicable : List Signed → Choice → Bool
is_applicable b c = list_all all_fit c.adds && not (list_any (all_stand b) (c.adds ++ c.others))

-- What each of the branches that an application makes has beyond the branch before it.
abbrev pub added : List Signed → Choice → List (List Signed)
added b c = map (new_of b) c.adds
