-- A line has at most one first failure.
use Rattle.std.proofs.Common.{◌≡◌, List, [], ◌∷◌, Contains, refl, ap, sym, ◌∙◌, Option, Some, None, Bool, true, false, inl, inr}
use Rattle.std.specs.Prelude.{◌⊎◌}
use Rattle.fol_core.specs.declared.sent.Sent.{Sent}
use Rattle.fol_core.specs.Word.{Word}
use Rattle.deriv_laws.specs.declared.rule.Rule.{Rule}
use Rattle.deriv_laws.specs.declared.line.StepFault.{StepFault}
use Rattle.deriv_laws.specs.declared.line.StepFault.TheVariants as fault
use Rattle.nested_proofs.specs.declared.kind.RuleKind.{RuleKind}
use Rattle.nested_proofs.specs.declared.kind.RuleKind.TheVariants as kind
use Rattle.nested_proofs.specs.Kinds.{kind_of}
use Rattle.nested_proofs.specs.Scope.{Subproof, cited_sentences, cited_subproofs}
use Rattle.nested_proofs.specs.Placed.{Around, Placed}
use Rattle.nested_proofs.specs.Rules.{Follows, StaysArbitrary}
use Rattle.nested_proofs.specs.Fresh.{HasFreshBox}
use Rattle.nested_proofs.specs.CiteTests.{cites_fault}
use Rattle.nested_proofs.specs.Faults.{Failure, NotAPremise, AsStep, NotAConsequence, Answers, IsPremiseFailure, IsBoxFailure, IsLastFailure, IsStepFailure, IsAnswer, IsConsequenceFailure, IsOwnFailure, IsConsequenceStepFailure, IsFailureOfKind, AreOne, OneFirstFailure}

premise_cases : {A : Type 0} (P : Type 0) (o : Option (Failure A)) → IsPremiseFailure P o → ((o ≡ None) × P) ⊎ ((o ≡ Some NotAPremise) × (P → ⊥))
premise_cases P None h = inl (refl, h)
premise_cases P (Some NotAPremise) h = inr (refl, h)
premise_cases P (Some _) h = absurd h

premise_one : {A : Type 0} (P : Type 0) (o q : Option (Failure A)) → ((o ≡ None) × P) ⊎ ((o ≡ Some NotAPremise) × (P → ⊥)) → ((q ≡ None) × P) ⊎ ((q ≡ Some NotAPremise) × (P → ⊥)) → o ≡ q
premise_one P o q (inl a) (inl b) = a.0 ∙ sym b.0
premise_one P o q (inl a) (inr b) = absurd (b.1 a.1)
premise_one P o q (inr a) (inl b) = absurd (a.1 b.1)
premise_one P o q (inr a) (inr b) = a.0 ∙ sym b.0

abbrev BoxCases : {A : Type 0} → List Sent → Around → Option Word → Option (Failure A) → Type 0
BoxCases premises a b o = ((o ≡ None) × HasFreshBox premises a b) ⊎ ((c : Word) × (b ≡ Some c) × (o ≡ Some (AsStep (fault.NotFresh c))) × (HasFreshBox premises a b → ⊥))

box_cases : {A : Type 0} (premises : List Sent) (a : Around) (b : Option Word) (o : Option (Failure A)) → IsBoxFailure premises a b o → BoxCases premises a b o
box_cases premises a b None h = inl (refl, h)
box_cases premises a (Some c) (Some (AsStep (fault.NotFresh d))) h = inr (c, refl, ap (λ (w : Word). Some (AsStep (fault.NotFresh w))) (sym h.0), h.1)
box_cases premises a b (Some _) h = absurd h

box_one : {A : Type 0} (premises : List Sent) (a : Around) (b : Option Word) (o q : Option (Failure A)) → BoxCases premises a b o → BoxCases premises a b q → o ≡ q
box_one premises a b o q (inl h) (inl k) = h.0 ∙ sym k.0
box_one premises a b o q (inl h) (inr k) = absurd (k.3 h.1)
box_one premises a b o q (inr h) (inl k) = absurd (h.3 k.1)
box_one premises a b o q (inr h) (inr k) =
    let e : Some h.0 ≡ Some k.0 = sym h.1 ∙ k.1 in
    let f : h.0 ≡ k.0 = cc in
    h.2 ∙ ap (λ (w : Word). Some (AsStep (fault.NotFresh w))) f ∙ sym k.2

abbrev LastCases : {A : Type 0} → Type 0 → Type 0 → List Subproof → Option (Failure A) → Type 0
LastCases F V bs o =
    ((o ≡ None) × F × V) ⊎ (((o ≡ Some (AsStep fault.NotFollows)) × (F → ⊥))
    ⊎ ((c : Word) × (o ≡ Some (AsStep (fault.NotFresh c))) × F × (V → ⊥) × ((b : Subproof) × (bs ≡ b ∷ []) × (b.boxed ≡ Some c))))

last_cases : {A : Type 0} (F V : Type 0) (bs : List Subproof) (o : Option (Failure A)) → IsLastFailure F V bs o → LastCases F V bs o
last_cases F V bs None h = inl (refl, h.0, h.1)
last_cases F V bs (Some (AsStep fault.NotFollows)) h = inr (inl (refl, h))
last_cases F V bs (Some (AsStep (fault.NotFresh c))) h = inr (inr (c, refl, h.0, h.1, (h.2, h.3, h.4)))
last_cases F V bs (Some _) h = absurd h

same_box : (b d : Subproof) (x y : Word) → b ∷ [] ≡ d ∷ [] → b.boxed ≡ Some x → d.boxed ≡ Some y → x ≡ y
same_box b d x y e f g =
    let i : b ≡ d = cc in
    let j : Some x ≡ Some y = sym f ∙ ap (λ (z : Subproof). z.boxed) i ∙ g in
    cc

last_one : {A : Type 0} (F V : Type 0) (bs : List Subproof) (o q : Option (Failure A)) → LastCases F V bs o → LastCases F V bs q → o ≡ q
last_one F V bs o q (inl h) (inl k) = h.0 ∙ sym k.0
last_one F V bs o q (inl h) (inr (inl k)) = absurd (k.1 h.1)
last_one F V bs o q (inl h) (inr (inr k)) = absurd (k.3 h.2)
last_one F V bs o q (inr (inl h)) (inl k) = absurd (h.1 k.1)
last_one F V bs o q (inr (inl h)) (inr (inl k)) = h.0 ∙ sym k.0
last_one F V bs o q (inr (inl h)) (inr (inr k)) = absurd (h.1 k.2)
last_one F V bs o q (inr (inr h)) (inl k) = absurd (h.3 k.2)
last_one F V bs o q (inr (inr h)) (inr (inl k)) = absurd (k.1 h.2)
last_one F V bs o q (inr (inr h)) (inr (inr k)) =
    let f : h.0 ≡ k.0 = same_box h.4.0 k.4.0 h.0 k.0 (sym h.4.1 ∙ k.4.1) h.4.2 k.4.2 in
    h.1 ∙ ap (λ (w : Word). Some (AsStep (fault.NotFresh w))) f ∙ sym k.1

step_one : {A : Type 0} (b : Bool) (e : Option StepFault) (F V : Type 0) (bs : List Subproof) (o q : Option (Failure A)) → IsStepFailure b e F V bs o → IsStepFailure b e F V bs q → o ≡ q
step_one false e F V bs o q h k = h ∙ sym k
step_one true (Some f) F V bs o q h k = h ∙ sym k
step_one true None F V bs o q h k = last_one F V bs o q (last_cases F V bs o h) (last_cases F V bs q k)

abbrev AnswerCases : {A : Type 0} → (Option A → Type 0) → Option (Failure A) → Type 0
AnswerCases {A} R o = ((o ≡ None) × R None) ⊎ ((a : A) × (o ≡ Some (NotAConsequence a)) × R (Some a))

answer_cases : {A : Type 0} (R : Option A → Type 0) (o : Option (Failure A)) → IsAnswer R o → AnswerCases R o
answer_cases R None h = inl (refl, h)
answer_cases R (Some (NotAConsequence a)) h = inr (a, refl, h)
answer_cases R (Some _) h = absurd h

answer_one : {A : Type 0} (R : Option A → Type 0) (o q : Option (Failure A)) → ((a b : Option A) → R a → R b → a ≡ b) → AnswerCases R o → AnswerCases R q → o ≡ q
answer_one R o q one (inl h) (inl k) = h.0 ∙ sym k.0
answer_one R o q one (inl h) (inr k) = let e : None ≡ Some k.0 = one None (Some k.0) h.1 k.2 in cc
answer_one R o q one (inr h) (inl k) = let e : Some h.0 ≡ None = one (Some h.0) None h.2 k.1 in cc
answer_one R o q one (inr h) (inr k) =
    let e : Some h.0 ≡ Some k.0 = one (Some h.0) (Some k.0) h.2 k.2 in
    let f : h.0 ≡ k.0 = cc in
    h.1 ∙ ap (λ a. Some (NotAConsequence a)) f ∙ sym k.1

consequence_one : {A : Type 0} (b : Bool) (e : Option StepFault) (R : Option A → Type 0) (o q : Option (Failure A)) → ((a b : Option A) → R a → R b → a ≡ b) →
    IsConsequenceFailure b e R o → IsConsequenceFailure b e R q → o ≡ q
consequence_one false e R o q one h k = h ∙ sym k
consequence_one true (Some f) R o q one h k = h ∙ sym k
consequence_one true None R o q one h k = answer_one R o q one (answer_cases R o h) (answer_cases R q k)

own_one : {A : Type 0} (allowed : Rule → Bool) (x : Placed) (rule : Rule) (s : Sent) (o q : Option (Failure A)) → IsOwnFailure allowed x rule s o → IsOwnFailure allowed x rule s q → o ≡ q
own_one allowed x rule s o q h k =
    step_one (allowed rule) (cites_fault rule x.around.scope x.line.cites)
    (Follows rule (cited_sentences x.around.scope x.line.cites) (cited_subproofs x.around.scope x.line.cites) s)
    (StaysArbitrary rule (cited_sentences x.around.scope x.line.cites) (cited_subproofs x.around.scope x.line.cites) s)
    (cited_subproofs x.around.scope x.line.cites) o q h k

by_answer : {A : Type 0} (allowed : Rule → Bool) (answers : Answers A) (x : Placed) (rule : Rule) (s : Sent) (o q : Option (Failure A)) → AreOne answers →
    IsConsequenceStepFailure allowed answers x rule s o → IsConsequenceStepFailure allowed answers x rule s q → o ≡ q
by_answer allowed answers x rule s o q one h k =
    consequence_one (allowed rule) (cites_fault rule x.around.scope x.line.cites) (answers rule (cited_sentences x.around.scope x.line.cites) s) o q
    (one rule (cited_sentences x.around.scope x.line.cites) s) h k

of_kind : {A : Type 0} (allowed : Rule → Bool) (answers : Answers A) (premises : List Sent) (x : Placed) (of : RuleKind) (rule : Rule) (s : Option Sent) (o q : Option (Failure A)) → AreOne answers →
    IsFailureOfKind allowed answers premises x of rule s o → IsFailureOfKind allowed answers premises x of rule s q → o ≡ q
of_kind allowed answers premises x kind.Premise rule (Some s) o q one h k = premise_one (Contains premises s) o q (premise_cases (Contains premises s) o h) (premise_cases (Contains premises s) q k)
of_kind allowed answers premises x kind.Premise rule None o q one h k = absurd h
of_kind allowed answers premises x kind.Opening rule s o q one h k = box_one premises x.around x.line.boxed o q (box_cases premises x.around x.line.boxed o h) (box_cases premises x.around x.line.boxed q k)
of_kind allowed answers premises x kind.Propositional rule (Some s) o q one h k = own_one allowed x rule s o q h k
of_kind allowed answers premises x kind.Propositional rule None o q one h k = absurd h
of_kind allowed answers premises x kind.Quantified rule (Some s) o q one h k = own_one allowed x rule s o q h k
of_kind allowed answers premises x kind.Quantified rule None o q one h k = absurd h
of_kind allowed answers premises x kind.Consequence rule (Some s) o q one h k = by_answer allowed answers x rule s o q one h k
of_kind allowed answers premises x kind.Consequence rule None o q one h k = absurd h

pub one_first_failure : {A : Type 0} (allowed : Rule → Bool) (answers : Answers A) → OneFirstFailure allowed answers
one_first_failure allowed answers premises x o q one h k = of_kind allowed answers premises x (kind_of x.line.rule) x.line.rule x.line.sentence o q one h k
