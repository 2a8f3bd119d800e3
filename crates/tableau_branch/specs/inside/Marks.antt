-- What is kept beside each signed sentence of a branch: a private description.
use Rattle.std.specs.Prelude.{◌≡◌, ◌+◌, List, [], ◌∷◌, ◌++◌, length}
use Rattle.fol_core.specs.declared.sent.Term.{Term}
use Rattle.tableau_laws.specs.declared.literal.Literal.{Literal as Signed}
use Rattle.tableau_laws.specs.Branch.{terms_on}
use Rattle.tableau_laws.specs.Choices.{is_closed}
use Rattle.tableau_branch.specs.declared.branch.Mark.{Mark}

-- How many terms the branch has, and whether it is closed.
abbrev pub mark_of : List Signed → Mark
mark_of b = record { terms = length (terms_on b); closed = is_closed [] b }

-- The same of the branch b with each front of ls, from the empty one on.
abbrev pub marks_of : List Signed → List Signed → List Mark
marks_of b [] = mark_of b ∷ []
marks_of b (l ∷ ls) = mark_of b ∷ marks_of (b ++ l ∷ []) ls

-- What is kept beside a branch.
pub record IsKept (b : List Signed) (terms : List Term) (marks : List Mark) : Type 0 where
  pub terms_are : terms ≡ terms_on b
  pub marks_are : marks ≡ marks_of [] b
  pub count : length marks ≡ length b + 1
