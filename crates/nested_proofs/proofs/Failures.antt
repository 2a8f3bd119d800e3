-- A line that fails no test is justified.
use Rattle.std.proofs.Common.{List, refl, Option, Some, None, IsTrue, Bool, true, false}
use Rattle.fol_core.specs.declared.sent.Sent.{Sent}
use Rattle.deriv_laws.specs.declared.rule.Rule.{Rule}
use Rattle.deriv_laws.specs.declared.line.StepFault.{StepFault}
use Rattle.nested_proofs.specs.declared.kind.RuleKind.{RuleKind}
use Rattle.nested_proofs.specs.declared.kind.RuleKind.TheVariants as kind
use Rattle.nested_proofs.specs.Kinds.{kind_of}
use Rattle.nested_proofs.specs.Scope.{Subproof, cited_sentences, cited_subproofs}
use Rattle.nested_proofs.specs.Placed.{Placed}
use Rattle.nested_proofs.specs.Rules.{Follows, StaysArbitrary}
use Rattle.nested_proofs.specs.CiteTests.{cites_fault}
use Rattle.nested_proofs.specs.Faults.{Answers, IsStepFailure, IsConsequenceFailure, IsOwnFailure, IsConsequenceStepFailure, IsFailureOfKind, says_yes, NoFailureJustifies}
use Rattle.nested_proofs.specs.Justified.{IsOwnStep, IsJustifiedAs}

step_right : (A : Type 0) (b : Bool) (e : Option StepFault) (F V : Type 0) (bs : List Subproof) → IsStepFailure {A = A} b e F V bs None → F × V
step_right A false e F V bs h = cc
step_right A true None F V bs h = h
step_right A true (Some f) F V bs h = cc

answer_right : {A : Type 0} (b : Bool) (e : Option StepFault) (R : Option A → Type 0) → IsConsequenceFailure b e R None → IsTrue b × R None
answer_right false e R h = cc
answer_right true None R h = (refl, h)
answer_right true (Some f) R h = cc

by_answer : {A : Type 0} (allowed : Rule → Bool) (answers : Answers A) (x : Placed) (rule : Rule) (s : Sent) → IsConsequenceStepFailure allowed answers x rule s None →
    says_yes allowed answers rule (cited_sentences x.around.scope x.line.cites) s
by_answer allowed answers x rule s h = answer_right (allowed rule) (cites_fault rule x.around.scope x.line.cites) (answers rule (cited_sentences x.around.scope x.line.cites) s) h

by_tests : (A : Type 0) (allowed : Rule → Bool) (x : Placed) (rule : Rule) (s : Sent) → IsOwnFailure {A = A} allowed x rule s None → IsOwnStep x.around x.line rule s
by_tests A allowed x rule s h =
    step_right A (allowed rule) (cites_fault rule x.around.scope x.line.cites)
    (Follows rule (cited_sentences x.around.scope x.line.cites) (cited_subproofs x.around.scope x.line.cites) s)
    (StaysArbitrary rule (cited_sentences x.around.scope x.line.cites) (cited_subproofs x.around.scope x.line.cites) s)
    (cited_subproofs x.around.scope x.line.cites) h

of_kind : {A : Type 0} (allowed : Rule → Bool) (answers : Answers A) (premises : List Sent) (x : Placed) (of : RuleKind) (rule : Rule) (s : Option Sent) →
    IsFailureOfKind allowed answers premises x of rule s None → IsJustifiedAs (says_yes allowed answers) premises x.around x.line of rule s
of_kind allowed answers premises x kind.Premise rule (Some s) h = h
of_kind allowed answers premises x kind.Premise rule None h = h
of_kind allowed answers premises x kind.Opening rule s h = h
of_kind {A} allowed answers premises x kind.Propositional rule (Some s) h = by_tests A allowed x rule s h
of_kind allowed answers premises x kind.Propositional rule None h = h
of_kind {A} allowed answers premises x kind.Quantified rule (Some s) h = by_tests A allowed x rule s h
of_kind allowed answers premises x kind.Quantified rule None h = h
of_kind allowed answers premises x kind.Consequence rule (Some s) h = by_answer allowed answers x rule s h
of_kind allowed answers premises x kind.Consequence rule None h = h

pub no_failure_justifies : {A : Type 0} (allowed : Rule → Bool) (answers : Answers A) → NoFailureJustifies allowed answers
no_failure_justifies allowed answers premises x h = of_kind allowed answers premises x (kind_of x.line.rule) x.line.rule x.line.sentence h
