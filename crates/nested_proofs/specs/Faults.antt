-- The first test that a line fails.
use Rattle.std.specs.Prelude.{◌≡◌, IsTrue, Bool, true, false, List, [], ◌∷◌, Contains, Option, Some, None}
use Rattle.fol_core.specs.declared.sent.Sent.{Sent}
use Rattle.fol_core.specs.Word.{Word}
use Rattle.deriv_laws.specs.declared.rule.Rule.{Rule}
use Rattle.deriv_laws.specs.declared.line.StepFault.{StepFault}
use Rattle.deriv_laws.specs.declared.line.StepFault.TheVariants as fault
use Rattle.nested_proofs.specs.declared.kind.RuleKind.{RuleKind}
use Rattle.nested_proofs.specs.declared.kind.RuleKind.TheVariants as kind
use Rattle.nested_proofs.specs.Kinds.{kind_of}
use Rattle.nested_proofs.specs.Scope.{Subproof, cited_sentences, cited_subproofs}
use Rattle.nested_proofs.specs.Placed.{Around, Placed}
use Rattle.nested_proofs.specs.Rules.{Follows, StaysArbitrary}
use Rattle.nested_proofs.specs.Fresh.{IsFresh, HasFreshBox}
use Rattle.nested_proofs.specs.CiteTests.{cites_fault}
use Rattle.nested_proofs.specs.Justified.{Consequence, IsJustified}

-- Why a line fails: its sentence is no premise, its rule isn't allowed, it fails as a step, or a
-- consequence rule answers something other than yes, which is of type A.
pub data Failure (A : Type 0) : Type 0 where
  NotAPremise : Failure A
  NotAllowed : Failure A
  AsStep : StepFault → Failure A
  NotAConsequence : A → Failure A

-- What the consequence rules answer, as a relation: `answers rule ps s None` says that s is a consequence
-- of the cited sentences ps in their order, and `answers rule ps s (Some a)` that the answer is a instead.
abbrev pub Answers : Type 0 → Type 1
Answers A = Rule → List Sent → Sent → Option A → Type 0

-- The only test of a premise is whether it is one of the premises of the task.
abbrev pub IsPremiseFailure : {A : Type 0} → Type 0 → Option (Failure A) → Type 0
IsPremiseFailure P None = P
IsPremiseFailure P (Some NotAPremise) = P → ⊥
IsPremiseFailure P (Some _) = ⊥

-- The only test of an assumption, or of a box alone, is whether the boxed constant is fresh.
abbrev pub IsBoxFailure : {A : Type 0} → List Sent → Around → Option Word → Option (Failure A) → Type 0
IsBoxFailure premises a b None = HasFreshBox premises a b
IsBoxFailure premises a (Some c) (Some (AsStep (fault.NotFresh d))) = (c ≡ d) × (IsFresh premises a c → ⊥)
IsBoxFailure premises a b (Some _) = ⊥

-- The last two tests of a step, once its cites are in order: that its sentence follows (F), and then
-- that the constant boxed by its one subproof stays arbitrary (V).
abbrev pub IsLastFailure : {A : Type 0} → Type 0 → Type 0 → List Subproof → Option (Failure A) → Type 0
IsLastFailure F V bs None = F × V
IsLastFailure F V bs (Some (AsStep fault.NotFollows)) = F → ⊥
IsLastFailure F V bs (Some (AsStep (fault.NotFresh c))) = F × (V → ⊥) × (b : Subproof) × (bs ≡ b ∷ []) × (b.boxed ≡ Some c)
IsLastFailure F V bs (Some _) = ⊥

-- A step fails first where its rule isn't allowed, then by its cites, and then by the last two tests.
abbrev pub IsStepFailure : {A : Type 0} → Bool → Option StepFault → Type 0 → Type 0 → List Subproof → Option (Failure A) → Type 0
IsStepFailure false e F V bs o = o ≡ Some NotAllowed
IsStepFailure true (Some e) F V bs o = o ≡ Some (AsStep e)
IsStepFailure true None F V bs o = IsLastFailure F V bs o

-- What the consequence rule answers on the cited sentences, once its cites are in order.
abbrev pub IsAnswer : {A : Type 0} → (Option A → Type 0) → Option (Failure A) → Type 0
IsAnswer R None = R None
IsAnswer R (Some (NotAConsequence a)) = R (Some a)
IsAnswer R (Some _) = ⊥

-- A consequence rule fails first where it isn't allowed, then by its cites, and then by its answer.
abbrev pub IsConsequenceFailure : {A : Type 0} → Bool → Option StepFault → (Option A → Type 0) → Option (Failure A) → Type 0
IsConsequenceFailure false e R o = o ≡ Some NotAllowed
IsConsequenceFailure true (Some e) R o = o ≡ Some (AsStep e)
IsConsequenceFailure true None R o = IsAnswer R o

-- How a step by a rule of the system itself first fails.
abbrev pub IsOwnFailure : {A : Type 0} → (Rule → Bool) → Placed → Rule → Sent → Option (Failure A) → Type 0
IsOwnFailure allowed x rule s o =
    let ps : List Sent = cited_sentences x.around.scope x.line.cites in
    let bs : List Subproof = cited_subproofs x.around.scope x.line.cites in
    IsStepFailure (allowed rule) (cites_fault rule x.around.scope x.line.cites) (Follows rule ps bs s) (StaysArbitrary rule ps bs s) bs o

-- How a step by a consequence rule first fails.
abbrev pub IsConsequenceStepFailure : {A : Type 0} → (Rule → Bool) → Answers A → Placed → Rule → Sent → Option (Failure A) → Type 0
IsConsequenceStepFailure allowed answers x rule s o =
    IsConsequenceFailure (allowed rule) (cites_fault rule x.around.scope x.line.cites) (answers rule (cited_sentences x.around.scope x.line.cites) s) o

-- How the placed line x first fails, with a rule of this kind and this sentence or none: a premise, an opening, or a step.
abbrev pub IsFailureOfKind : {A : Type 0} → (Rule → Bool) → Answers A → List Sent → Placed → RuleKind → Rule → Option Sent → Option (Failure A) → Type 0
IsFailureOfKind allowed answers premises x kind.Premise rule (Some s) o = IsPremiseFailure (Contains premises s) o
IsFailureOfKind allowed answers premises x kind.Premise rule None o = ⊥
IsFailureOfKind allowed answers premises x kind.Opening rule s o = IsBoxFailure premises x.around x.line.boxed o
IsFailureOfKind allowed answers premises x kind.Propositional rule (Some s) o = IsOwnFailure allowed x rule s o
IsFailureOfKind allowed answers premises x kind.Propositional rule None o = ⊥
IsFailureOfKind allowed answers premises x kind.Quantified rule (Some s) o = IsOwnFailure allowed x rule s o
IsFailureOfKind allowed answers premises x kind.Quantified rule None o = ⊥
IsFailureOfKind allowed answers premises x kind.Consequence rule (Some s) o = IsConsequenceStepFailure allowed answers x rule s o
IsFailureOfKind allowed answers premises x kind.Consequence rule None o = ⊥

-- `IsFailureBy allowed answers premises x rule s o`: the placed line x, with this rule and this sentence
-- or none, first fails as o says, or it fails no test where o is none.
abbrev pub IsFailureBy : {A : Type 0} → (Rule → Bool) → Answers A → List Sent → Placed → Rule → Option Sent → Option (Failure A) → Type 0
IsFailureBy allowed answers premises x rule s o = IsFailureOfKind allowed answers premises x (kind_of rule) rule s o

-- The first test that the line fails, or none.
abbrev pub IsFirstFailure : {A : Type 0} → (Rule → Bool) → Answers A → List Sent → Placed → Option (Failure A) → Type 0
IsFirstFailure allowed answers premises x o = IsFailureBy allowed answers premises x x.line.rule x.line.sentence o

-- The consequence rule is allowed, and answers yes.
abbrev pub says_yes : {A : Type 0} → (Rule → Bool) → Answers A → Consequence
says_yes allowed answers rule ps s = IsTrue (allowed rule) × answers rule ps s None

-- A line that fails no test is justified.
abbrev pub NoFailureJustifies : {A : Type 0} → (Rule → Bool) → Answers A → Type 0
NoFailureJustifies allowed answers = (premises : List Sent) (x : Placed) → IsFirstFailure allowed answers premises x None → IsJustified (says_yes allowed answers) premises x

-- The consequence rules answer once: on the same sentences, each gives at most one answer.
abbrev pub AreOne : {A : Type 0} → Answers A → Type 0
AreOne {A} answers = (rule : Rule) (ps : List Sent) (s : Sent) (a b : Option A) → answers rule ps s a → answers rule ps s b → a ≡ b

-- Where the consequence rules answer once, a line has at most one first failure.
abbrev pub OneFirstFailure : {A : Type 0} → (Rule → Bool) → Answers A → Type 0
OneFirstFailure {A} allowed answers = (premises : List Sent) (x : Placed) (o q : Option (Failure A)) → AreOne answers →
    IsFirstFailure allowed answers premises x o → IsFirstFailure allowed answers premises x q → o ≡ q
