-- The ordered tableau.
use Rattle.std.specs.Prelude.{◌≡◌, ℕ, suc, ◌+◌, false, true, List, [], ◌∷◌, ◌++◌, map, Some, ◌⊎◌}
use Rattle.fol_core.specs.declared.sent.Sent.{Sent}
use Rattle.tableau_laws.specs.declared.literal.Literal.{Literal as Signed}
use Rattle.tableau_laws.specs.Branch.{held, denied, new_of}
use Rattle.tableau_laws.specs.Choice.{Choice, added}
use Rattle.tableau_laws.specs.Clauses.{Clause}
use Rattle.tableau_laws.specs.Choices.{first, is_closed}

mutual
  -- A tree of branches. Each node is a branch: what its parent has, and what is added to it. So a tree is read over the branch
  -- at its root.
  pub data Tableau : Type 0 where
    leaf : Tableau
    inner : Grove → Tableau

  -- The children of a node, from the left, each with what it adds.
  pub data Grove : Type 0 where
    none : Grove
    more : List Signed → Tableau → Grove → Grove

abbrev mutual
  -- The number of applications: of the nodes that have been worked on.
  pub applications : Tableau → ℕ
  applications leaf = 0
  applications (inner g) = suc (applications_in g)

  pub applications_in : Grove → ℕ
  applications_in none = 0
  applications_in (more ls t g) = applications t + applications_in g

abbrev mutual
  -- `IsDone clauses b t`: over the branch b, each inner node of t is a branch that isn't closed, its children are what the first
  -- applicable choice makes of it, and each leaf is closed.
  pub IsDone : List Clause → List Signed → Tableau → Type 0
  IsDone clauses b leaf = is_closed clauses b ≡ true
  IsDone clauses b (inner g) = (is_closed clauses b ≡ false) × ((c : Choice) × (first clauses b ≡ Some c) × AreDone clauses b (added b c) g)

  pub AreDone : List Clause → List Signed → List (List Signed) → Grove → Type 0
  AreDone clauses b [] none = Unit {0}
  AreDone clauses b (new ∷ news) (more ls t g) = (ls ≡ new) × IsDone clauses (b ++ ls) t × AreDone clauses b news g
  AreDone clauses b _ _ = ⊥

-- The children are these, and nothing was done on them.
abbrev pub AreLeft : List (List Signed) → Grove → Type 0
AreLeft [] none = Unit {0}
AreLeft (new ∷ news) (more ls leaf g) = (ls ≡ new) × AreLeft news g
AreLeft _ _ = ⊥

abbrev mutual
  -- `WorksAt clauses b t w`: the same of the inner nodes, and the leaves are, from the left, closed ones, then one that isn't
  -- closed, with the branch w, at which work stands, and then leaves on which nothing was done.
  pub WorksAt : List Clause → List Signed → Tableau → List Signed → Type 0
  WorksAt clauses b leaf w = (is_closed clauses b ≡ false) × (w ≡ b)
  WorksAt clauses b (inner g) w = (is_closed clauses b ≡ false) × ((c : Choice) × (first clauses b ≡ Some c) × WorkAt clauses b (added b c) g w)

  pub WorkAt : List Clause → List Signed → List (List Signed) → Grove → List Signed → Type 0
  WorkAt clauses b (new ∷ news) (more ls t g) w = (ls ≡ new) × ((IsDone clauses (b ++ ls) t × WorkAt clauses b news g w) ⊎ (WorksAt clauses (b ++ ls) t w × AreLeft news g))
  WorkAt clauses b _ _ w = ⊥

-- An orderly tree: each leaf is closed, or work stands at one of them.
abbrev pub IsOrderly : List Clause → List Signed → Tableau → Type 0
IsOrderly clauses b t = IsDone clauses b t ⊎ ((w : List Signed) × WorksAt clauses b t w)

-- The branch at the root: the premises held, in order, and then the goal denied.
abbrev pub start : List Sent → Sent → List Signed
start ps goal = new_of [] (map held ps ++ denied goal ∷ [])
