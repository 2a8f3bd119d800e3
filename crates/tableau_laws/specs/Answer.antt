-- What the tableau answers.
use Rattle.std.specs.Prelude.{◌≡◌, ◌≢◌, ℕ, ◌≤◌, Bool, true, false, List, filter, None}
use Rattle.fol_core.specs.declared.sent.Sent.{Sent, out-Sent}
use Rattle.fol_core.specs.declared.sent.Sent.TheOpen.{Sent-F}
use Rattle.fol_core.specs.declared.sent.Sent.TheOpen as f
use Rattle.tableau_laws.specs.declared.literal.Literal.{Literal as Signed}
use Rattle.tableau_laws.specs.declared.literal.ConAnswer.{ConAnswer}
use Rattle.tableau_laws.specs.declared.literal.ConAnswer.TheVariants.{Closed, Open, Spent}
use Rattle.tableau_laws.specs.Clauses.{Clause}
use Rattle.tableau_laws.specs.Choices.{first}
use Rattle.tableau_laws.specs.Tableau.{Tableau, applications, IsDone, WorksAt}

-- The form of an atomic sentence or an equation.
abbrev pub is_atomic : Sent-F Sent → Bool
is_atomic (f.Atom p ts) = true
is_atomic (f.Eq s t) = true
is_atomic _ = false

-- The literals on a branch, in its order: the atomic sentences and the equations, each with its sign.
abbrev pub literals : List Signed → List Signed
literals = filter (λ l. is_atomic (out-Sent l.sentence))

-- `IsAnswer clauses budget b answer`: what is answered over the branch b with so many applications at most. Closed: an orderly
-- tree has this number of applications and all its leaves are closed. Open: in an orderly tree work stands at a finished branch,
-- which has these literals. Spent: in the orderly tree with as many applications as there may be, work stands at a branch that
-- isn't finished.
abbrev pub IsAnswer : List Clause → ℕ → List Signed → ConAnswer → Type 0
IsAnswer clauses budget b (Closed n) = (t : Tableau) × IsDone clauses b t × (applications t ≡ n) × (n ≤ budget)
IsAnswer clauses budget b (Open ls) = (t : Tableau) × (w : List Signed) × WorksAt clauses b t w × (applications t ≤ budget) × (first clauses w ≡ None) × (ls ≡ literals w)
IsAnswer clauses budget b Spent = (t : Tableau) × (w : List Signed) × WorksAt clauses b t w × (applications t ≡ budget) × (first clauses w ≢ None)
