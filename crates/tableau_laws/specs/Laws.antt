-- The laws of the ordered tableau.
use Rattle.std.specs.Prelude.{◌≡◌, ◌≢◌, ℕ, ◌+◌, ◌<◌, ◌^◌, IsTrue, List, [], ◌++◌, length, None}
use Rattle.std.specs.List.{AllByRecursion}
use Rattle.fol_core.specs.declared.sent.Term.{Term}
use Rattle.fol_core.specs.declared.sent.Sent.{Sent}
use Rattle.fol_core.specs.Word.{Word}
use Rattle.fol_core.specs.Statements.{statement, ground, AreStatements}
use Rattle.deriv_laws.specs.Eigen.{AreWithout}
use Rattle.deriv_laws.specs.Derivable.{Der}
use Rattle.tableau_laws.specs.declared.literal.Literal.{Literal as Signed}
use Rattle.tableau_laws.specs.declared.literal.ConAnswer.{ConAnswer}
use Rattle.tableau_laws.specs.Branch.{terms_on}
use Rattle.tableau_laws.specs.Classes.{fresh}
use Rattle.tableau_laws.specs.Clauses.{Clause}
use Rattle.tableau_laws.specs.Tableau.{Tableau, applications, start, IsDone, IsOrderly}
use Rattle.tableau_laws.specs.Answer.{IsAnswer}
use Rattle.tableau_laws.specs.Refuted.{GiveInstances}

-- Over a branch there is at most one orderly tree with a given number of applications.
abbrev pub UniquenessLaw : Type 0
UniquenessLaw = (clauses : List Clause) (b : List Signed) (t u : Tableau) → IsOrderly clauses b t → IsOrderly clauses b u → applications t ≡ applications u → t ≡ u

-- There is at most one answer.
abbrev pub OneAnswerLaw : Type 0
OneAnswerLaw = (clauses : List Clause) (budget : ℕ) (b : List Signed) (a c : ConAnswer) → IsAnswer clauses budget b a → IsAnswer clauses budget b c → a ≡ c

-- Where the tableau of statements is closed, the goal is derivable from the premises.
abbrev pub ClosedLaw : Type 0
ClosedLaw = (ps : List Sent) (goal : Sent) → AreStatements ps → IsTrue (statement goal) → (t : Tableau) → IsDone [] (start ps goal) t → Der ps goal

-- With clauses, it is derivable from the premises and axioms in which no name occurs, and from which each instance of the
-- clauses follows.
abbrev pub ClosedWithAxiomsLaw : Type 0
ClosedWithAxiomsLaw =
    (clauses : List Clause) (axioms : List Sent) → ((n : Word) → AreWithout n axioms) → AreStatements axioms → GiveInstances axioms clauses →
    (ps : List Sent) (goal : Sent) → AreStatements ps → IsTrue (statement goal) → (t : Tableau) → IsDone clauses (start ps goal) t → Der (ps ++ axioms) goal

-- Among the names k1, k2, k3 and so on there is one that is none of the terms.
abbrev pub FreshNameLaw : Type 0
FreshNameLaw = (terms : List Term) → length terms + 2 < 2 ^ 64 → fresh terms ≢ None

-- The terms on a branch are ground.
abbrev pub GroundTermsLaw : Type 0
GroundTermsLaw = (b : List Signed) → AllByRecursion (λ t. IsTrue (ground t)) (terms_on b)
