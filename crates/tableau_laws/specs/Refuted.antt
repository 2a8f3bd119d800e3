-- What a branch says, when it is refuted, and which applications keep this.
use Rattle.std.specs.Prelude.{List, ◌++◌, map}
use Rattle.std.specs.List.{AllByRecursion}
use Rattle.fol_core.specs.declared.sent.Sent.{Sent}
use Rattle.fol_core.specs.declared.sent.Sent.TheVariants.{Bottom}
use Rattle.fol_core.specs.Statements.{AreStatements}
use Rattle.deriv_laws.specs.Derivable.{Der}
use Rattle.tableau_laws.specs.declared.literal.Literal.{Literal as Signed}
use Rattle.tableau_laws.specs.Branch.{said}
use Rattle.tableau_laws.specs.Choice.{Choice}
use Rattle.tableau_laws.specs.Clauses.{Clause, either_of, instances}

-- What is said on a branch, and the axioms.
abbrev pub given_on : List Sent → List Signed → List Sent
given_on axioms b = map said b ++ axioms

-- A branch is refuted where falsum is derivable from what it says and the axioms.
abbrev pub Refuted : List Sent → List Signed → Type 0
Refuted axioms b = Der (given_on axioms b) Bottom

-- An application is sound on a branch where all that it adds are statements, and the branch is refuted if each branch that it
-- makes is.
pub record IsSound (axioms : List Sent) (b : List Signed) (c : Choice) : Type 0 where
  pub stated : AllByRecursion (λ ls. AreStatements (map said ls)) c.adds
  pub refutes : AllByRecursion (λ ls. Refuted axioms (b ++ ls)) c.adds → Refuted axioms b

-- Each of these applications is.
abbrev pub AreSound : List Sent → List Signed → List Choice → Type 0
AreSound axioms b cs = AllByRecursion (IsSound axioms b) cs

-- On a branch of statements, each instance of the clauses is derivable, and its literals are statements.
abbrev pub GiveInstances : List Sent → List Clause → Type 0
GiveInstances axioms clauses =
    (b : List Signed) → AreStatements (given_on axioms b) →
    AllByRecursion (λ ls. Der (given_on axioms b) (either_of ls) × AreStatements (map said ls)) (instances clauses b)
