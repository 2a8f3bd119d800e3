-- Laws of derivability for disjunctions, negations, absurdity, conditionals and biconditionals.
use Rattle.std.specs.Prelude.{IsTrue, List, ◌∷◌, Contains}
use Rattle.std.specs.List.{AllByRecursion}
use Rattle.fol_core.specs.declared.sent.Sent.{Sent}
use Rattle.fol_core.specs.declared.sent.Sent.TheVariants.{Bottom, Not, Or, If, Iff}
use Rattle.fol_core.specs.Statements.{statement}
use Rattle.deriv_laws.specs.Derivable.{Der}

-- Addition: where a sentence is derivable, so is each disjunction that has it as a part, if that is a statement.
abbrev pub AdditionLaw : Type 0
AdditionLaw = (gs parts : List Sent) (p : Sent) → Der gs p → Contains parts p → IsTrue (statement (Or parts)) → Der gs (Or parts)

-- Proof by cases: a statement that is derivable from each part of a derivable disjunction is derivable.
abbrev pub CasesLaw : Type 0
CasesLaw = (gs parts : List Sent) (s : Sent) → Der gs (Or parts) → AllByRecursion (λ p. Der (p ∷ gs) s) parts → IsTrue (statement s) → Der gs s

-- Proof by contradiction: a statement from which absurdity is derivable is refuted.
abbrev pub ContradictionLaw : Type 0
ContradictionLaw = (gs : List Sent) (p : Sent) → Der (p ∷ gs) Bottom → IsTrue (statement p) → Der gs (Not p)

-- Double negation: what is denied to be false is derivable.
abbrev pub DoubleNegationLaw : Type 0
DoubleNegationLaw = (gs : List Sent) (s : Sent) → Der gs (Not (Not s)) → Der gs s

-- Absurdity is derivable where a sentence and its negation are.
abbrev pub AbsurdityLaw : Type 0
AbsurdityLaw = (gs : List Sent) (p : Sent) → Der gs p → Der gs (Not p) → Der gs Bottom

-- From absurdity each statement is derivable.
abbrev pub ExplosionLaw : Type 0
ExplosionLaw = (gs : List Sent) (s : Sent) → Der gs Bottom → IsTrue (statement s) → Der gs s

-- The deduction theorem: where the consequent is derivable from an antecedent that is a statement, the conditional is derivable.
abbrev pub DeductionLaw : Type 0
DeductionLaw = (gs : List Sent) (p q : Sent) → Der (p ∷ gs) q → IsTrue (statement p) → Der gs (If p q)

-- Modus ponens: a conditional and its antecedent give its consequent.
abbrev pub DetachmentLaw : Type 0
DetachmentLaw = (gs : List Sent) (p q : Sent) → Der gs (If p q) → Der gs p → Der gs q

-- Where each of two sentences is derivable from the other, their biconditional is derivable.
abbrev pub EquivalenceLaw : Type 0
EquivalenceLaw = (gs : List Sent) (p q : Sent) → Der (p ∷ gs) q → Der (q ∷ gs) p → Der gs (Iff p q)

-- A biconditional and its left side give its right side.
abbrev pub ForwardLaw : Type 0
ForwardLaw = (gs : List Sent) (p q : Sent) → Der gs (Iff p q) → Der gs p → Der gs q

-- A biconditional and its right side give its left side.
abbrev pub BackwardLaw : Type 0
BackwardLaw = (gs : List Sent) (p q : Sent) → Der gs (Iff p q) → Der gs q → Der gs p

-- Cut: what is derivable need not be given.
abbrev pub CutLaw : Type 0
CutLaw = (gs : List Sent) (p s : Sent) → Der gs p → Der (p ∷ gs) s → Der gs s
