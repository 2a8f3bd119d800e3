-- One law for each class: on a branch of statements all that the class gives is sound, whichever of its choices is made.
use Rattle.std.specs.Prelude.{◌≡◌, true, IsTrue, List}
use Rattle.std.specs.List.{flat_map}
use Rattle.fol_core.specs.declared.sent.Term.{Term}
use Rattle.fol_core.specs.declared.sent.Sent.{Sent}
use Rattle.fol_core.specs.Word.{Word}
use Rattle.fol_core.specs.Statements.{ground, AreStatements}
use Rattle.deriv_laws.specs.Eigen.{AreWithout}
use Rattle.tableau_laws.specs.declared.literal.Literal.{Literal as Signed}
use Rattle.tableau_laws.specs.Branch.{terms_on}
use Rattle.tableau_laws.specs.Classes.{of_single, of_equation, of_witness, of_several, of_universal}
use Rattle.tableau_laws.specs.Clauses.{Clause, instances, not_denied, unit, split}
use Rattle.tableau_laws.specs.Choices.{is_closed}
use Rattle.tableau_laws.specs.Refuted.{given_on, Refuted, AreSound, GiveInstances}

-- A branch that is closed is refuted.
abbrev pub ClosingLaw : Type 0
ClosingLaw = (axioms : List Sent) (clauses : List Clause) → GiveInstances axioms clauses → (b : List Signed) → AreStatements (given_on axioms b) → is_closed clauses b ≡ true → Refuted axioms b

-- One branch.
abbrev pub SingleLaw : Type 0
SingleLaw = (axioms : List Sent) (b : List Signed) → AreStatements (given_on axioms b) → AreSound axioms b (flat_map of_single b)

-- Equations.
abbrev pub EquationLaw : Type 0
EquationLaw = (axioms : List Sent) (b : List Signed) → AreStatements (given_on axioms b) → AreSound axioms b (flat_map (of_equation b) b)

-- Clauses of which one literal isn't denied.
abbrev pub UnitLaw : Type 0
UnitLaw =
    (axioms : List Sent) (clauses : List Clause) → GiveInstances axioms clauses → (b : List Signed) → AreStatements (given_on axioms b) →
    AreSound axioms b (flat_map (λ ls. unit (not_denied b ls)) (instances clauses b))

-- Witnesses, where no name occurs in the axioms.
abbrev pub WitnessesLaw : Type 0
WitnessesLaw = (axioms : List Sent) → ((n : Word) → AreWithout n axioms) → (b : List Signed) → AreStatements (given_on axioms b) → AreSound axioms b (flat_map (of_witness (terms_on b)) b)

-- Several branches.
abbrev pub SeveralLaw : Type 0
SeveralLaw = (axioms : List Sent) (b : List Signed) → AreStatements (given_on axioms b) → AreSound axioms b (flat_map of_several b)

-- Universals, by any ground term.
abbrev pub UniversalLaw : Type 0
UniversalLaw = (axioms : List Sent) (b : List Signed) → AreStatements (given_on axioms b) → (t : Term) → IsTrue (ground t) → AreSound axioms b (flat_map (of_universal t) b)

-- Clauses of which two literals or more aren't denied.
abbrev pub SplitLaw : Type 0
SplitLaw =
    (axioms : List Sent) (clauses : List Clause) → GiveInstances axioms clauses → (b : List Signed) → AreStatements (given_on axioms b) →
    AreSound axioms b (flat_map (λ ls. split (not_denied b ls)) (instances clauses b))
