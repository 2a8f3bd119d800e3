-- Steps by tautological consequence.
use Rattle.std.proofs.Common.{◌≡◌, ℕ, ◌+◌, ◌-◌, ◌<◌, ◌≤◌, true, false, List, [], ◌++◌, length, get_or, refl, ap, sym, subst, ◌∙◌, Bool, Option, Some, None, Result, Ok, Err, IsTrue, append-nil}
use Rattle.std.specs.Prelude.{MatchResult, ◌≢◌, ◌||◌, ◌&&◌}
use Rattle.fol_core.specs.declared.sent.Sent.{Sent}
use Rattle.fol_core.specs.Statements.{statement, AreStatements}
use Rattle.deriv_laws.specs.declared.rule.Rule.{Rule}
use Rattle.deriv_laws.specs.declared.rule.Rule.TheVariants as r
use Rattle.deriv_laws.specs.declared.line.FlatLine.{FlatLine}
use Rattle.deriv_laws.specs.declared.line.StepFault.{StepFault}
use Rattle.deriv_laws.specs.declared.line.StepFault.TheVariants as fault
use Rattle.deriv_laws.specs.Derivable.{Der}
use Rattle.nested_proofs.specs.Scope.{cited_sentences}
use Rattle.nested_proofs.specs.Placed.{Placed}
use Rattle.nested_proofs.specs.CiteTests.{cites_fault, is_inferred, IsVerdict as CiteVerdict}
use Rattle.nested_proofs.specs.Nesting.{WellNested}
use Rattle.nested_proofs.specs.AtLine.{AtLine}
use Rattle.nested_proofs.specs.Faults.{Failure, AsStep, NotAConsequence, IsConsequenceFailure, AreOne}
use Rattle.nested_proofs.proofs.Reading.{at_line}
use Rattle.taut_con.specs.declared.answer.TautAnswer.{TautAnswer}
use Rattle.taut_con.specs.declared.answer.TautAnswer.TheVariants.{Yes, No, TooManyLetters}
use Rattle.taut_con.specs.Answer.{taut_answer}
use Rattle.taut_con.proofs.Sound.{yes_derivable}
use Rattle.fitch_file.specs.declared.task.Allowed.{Allowed}
use Rattle.fitch_file.specs.declared.task.Task.{Task}
use Rattle.proof_check.specs.declared.verdict.LineFault.{LineFault}
use Rattle.proof_check.specs.declared.verdict.LineFault.TheVariants as l
use Rattle.proof_check.specs.Failing.{is_own, is_tautological, is_allowed, taut_fault, answers, IsLineFailure, IsLineFault}
use Rattle.proof_check.specs.Readers.{IsTested, IsTableFault, IsTautStepFault, IsStepFault, ByKind, IsInferenceFault}
use Rattle.proof_check.proofs.LineFaults.{by_rule, of_line, stated, shape_at, at_both, rule_refused, step_tested}

-- what the truth table says, with the line's sentence at hand
table_says : (x : Placed) (s : Sent) (f : Option LineFault) → x.line.sentence ≡ Some s → IsTableFault x f → f ≡ taut_fault (taut_answer (cited_sentences x.around.scope x.line.cites) s)
table_says x s f e (t, i, h) = let k : t ≡ s = cc in h ∙ ap (λ u. taut_fault (taut_answer (cited_sentences x.around.scope x.line.cites) u)) k

-- what the tests of the step come to
tested : (task : Task) (x : Placed) (s : Sent) (e : Option StepFault) (f : Option LineFault) → x.line.sentence ≡ Some s → IsTested e (IsTableFault x) f →
    ((o : Option (Failure LineFault)) → IsConsequenceFailure true e (answers r.TautCon (cited_sentences x.around.scope x.line.cites) s) o → IsLineFailure task x o) → IsLineFault task x f
tested task x s (Some e) f i h t = subst (λ g. IsLineFault task x g) (sym h) (AsStep e, t (Some (AsStep e)) refl, refl)
tested task x s None None i h t = t None (table_says x s None i h)
tested task x s None (Some g) i h t = (NotAConsequence g, t (Some (NotAConsequence g)) (table_says x s (Some g) i h), refl)

tautology_tested : (task : Task) (x : Placed) (s : Sent) (f : Option LineFault) → x.line.sentence ≡ Some s → x.line.rule ≡ r.TautCon → is_allowed task.allowed r.TautCon ≡ true → IsTautStepFault x f → IsLineFault task x f
tautology_tested task x s f e i a h =
    tested task x s (cites_fault r.TautCon x.around.scope x.line.cites) f e (subst (λ rule. IsTested (cites_fault rule x.around.scope x.line.cites) (IsTableFault x) f) i h)
    (λ o k. by_rule task x r.TautCon (Some s) o i e
    (subst (λ b. IsConsequenceFailure b (cites_fault r.TautCon x.around.scope x.line.cites) (answers r.TautCon (cited_sentences x.around.scope x.line.cites) s) o) (sym a) k))

taut_rule : (rule : Rule) → is_tautological rule ≡ true → rule ≡ r.TautCon
taut_rule r.TautCon e = refl
taut_rule rule e = cc

-- an allowed rule that isn't tautological consequence is one of the system itself
own_left : (own taut allowed : Bool) → (own || (taut && allowed)) ≡ true → taut ≡ false → own ≡ true
own_left true taut allowed e n = refl
own_left false true allowed e n = cc
own_left false false allowed e n = e

-- the rules of steps
not_opening : (rule : Rule) → is_inferred rule ≡ true → (rule ≡ r.Premise → ⊥) × ((rule ≡ r.Assume → ⊥) × (rule ≡ r.BoxOnly → ⊥))
not_opening rule e = (λ f. let g = subst (λ x. is_inferred x ≡ true) f e in cc, (λ f. let g = subst (λ x. is_inferred x ≡ true) f e in cc, λ f. let g = subst (λ x. is_inferred x ≡ true) f e in cc))

pub inferred : (rule : Rule) → (rule ≡ r.Premise → ⊥) → (rule ≡ r.Assume → ⊥) → (rule ≡ r.BoxOnly → ⊥) → is_inferred rule ≡ true
inferred r.Premise p a b = absurd (p refl)
inferred r.Assume p a b = absurd (a refl)
inferred r.BoxOnly p a b = absurd (b refl)
inferred rule p a b = refl

-- what the tests of a step come to
inference_tested : (task : Task) (x : Placed) (s : Sent) (f : Option LineFault) → x.line.sentence ≡ Some s → is_inferred x.line.rule ≡ true → IsInferenceFault task.allowed x f → IsLineFault task x f
inference_tested task x s f e i h = go (is_allowed task.allowed x.line.rule) (is_tautological x.line.rule) refl refl h
  where
    go : (a t : Bool) → is_allowed task.allowed x.line.rule ≡ a → is_tautological x.line.rule ≡ t → ByKind a t (f ≡ Some l.RuleNotAllowed) (IsTautStepFault x f) (IsStepFault x f) → IsLineFault task x f
    go true true a t k = let q : x.line.rule ≡ r.TautCon = taut_rule x.line.rule t in tautology_tested task x s f e q (ap (is_allowed task.allowed) (sym q) ∙ a) k
    go true false a t k = step_tested task x s f e (own_left (is_own x.line.rule) (is_tautological x.line.rule) task.allowed.taut a t) k
    go false t a u k = let n = not_opening x.line.rule i in subst (λ g. IsLineFault task x g) (sym k) (rule_refused task x s e a n.0 n.1.0 n.1.1)

pub at_inference : (task : Task) (ls : List FlatLine) (j : ℕ) (y : FlatLine) (f : Option LineFault) → WellNested 1 ls → 0 < j → j ≤ length ls → y ≡ get_or ls (j - 1) y → is_inferred y.rule ≡ true →
    AtLine ls j (λ x. IsInferenceFault task.allowed x f) → AtLine ls j (λ x. IsLineFault task x f)
at_inference task ls j y f w low high e i h =
    let s = stated y y.rule (shape_at ls j y w low high e) (not_opening y.rule i).1.1 in
    at_both ls j (λ x. x.line ≡ y) (λ x. IsInferenceFault task.allowed x f) (λ x. IsLineFault task x f)
    (λ x q k. inference_tested task x s.0 f (ap (λ (z : FlatLine). z.sentence) q ∙ s.1) (ap (λ (z : FlatLine). is_inferred z.rule) q ∙ i) k)
    (of_line ls j y (λ x. x.line ≡ y) low high e (λ x q. q)) h

-- the kinds of steps
by_kind : (allowed : Allowed) (x : Placed) (f : Option LineFault) (a t : Bool) → is_allowed allowed x.line.rule ≡ a → is_tautological x.line.rule ≡ t →
    ByKind a t (f ≡ Some l.RuleNotAllowed) (IsTautStepFault x f) (IsStepFault x f) → IsInferenceFault allowed x f
by_kind allowed x f a t p q k =
    subst (λ b. ByKind b (is_tautological x.line.rule) (f ≡ Some l.RuleNotAllowed) (IsTautStepFault x f) (IsStepFault x f)) (sym p)
    (subst (λ b. ByKind a b (f ≡ Some l.RuleNotAllowed) (IsTautStepFault x f) (IsStepFault x f)) (sym q) k)

pub at_refused : (allowed : Allowed) (ls : List FlatLine) (j : ℕ) (y : FlatLine) → 0 < j → j ≤ length ls → y ≡ get_or ls (j - 1) y → is_allowed allowed y.rule ≡ false → AtLine ls j (λ x. IsInferenceFault allowed x (Some l.RuleNotAllowed))
at_refused allowed ls j y low high e a =
    of_line ls j y (λ x. IsInferenceFault allowed x (Some l.RuleNotAllowed)) low high e
    (λ x q. by_kind allowed x (Some l.RuleNotAllowed) false (is_tautological x.line.rule) (ap (λ (z : FlatLine). is_allowed allowed z.rule) q ∙ a) refl refl)

pub at_tautology : (allowed : Allowed) (ls : List FlatLine) (j : ℕ) (y : FlatLine) (f : Option LineFault) → 0 < j → j ≤ length ls → y ≡ get_or ls (j - 1) y → is_allowed allowed y.rule ≡ true → is_tautological y.rule ≡ true →
    AtLine ls j (λ x. IsTautStepFault x f) → AtLine ls j (λ x. IsInferenceFault allowed x f)
at_tautology allowed ls j y f low high e a t h =
    at_both ls j (λ x. x.line ≡ y) (λ x. IsTautStepFault x f) (λ x. IsInferenceFault allowed x f)
    (λ x q k. by_kind allowed x f true true (ap (λ (z : FlatLine). is_allowed allowed z.rule) q ∙ a) (ap (λ (z : FlatLine). is_tautological z.rule) q ∙ t) k)
    (of_line ls j y (λ x. x.line ≡ y) low high e (λ x q. q)) h

pub at_own : (allowed : Allowed) (ls : List FlatLine) (j : ℕ) (y : FlatLine) (f : Option LineFault) → 0 < j → j ≤ length ls → y ≡ get_or ls (j - 1) y → is_allowed allowed y.rule ≡ true → is_tautological y.rule ≡ false →
    AtLine ls j (λ x. IsStepFault x f) → AtLine ls j (λ x. IsInferenceFault allowed x f)
at_own allowed ls j y f low high e a t h =
    at_both ls j (λ x. x.line ≡ y) (λ x. IsStepFault x f) (λ x. IsInferenceFault allowed x f)
    (λ x q k. by_kind allowed x f true false (ap (λ (z : FlatLine). is_allowed allowed z.rule) q ∙ a) (ap (λ (z : FlatLine). is_tautological z.rule) q ∙ t) k)
    (of_line ls j y (λ x. x.line ≡ y) low high e (λ x q. q)) h

pub own_rule : (allowed : Allowed) (rule : Rule) → is_allowed allowed rule ≡ true → is_tautological rule ≡ false → is_own rule ≡ true
own_rule allowed rule a t = own_left (is_own rule) (is_tautological rule) allowed.taut a t

-- a step whose cites fail
cites_answer : (x : Placed) (g : StepFault) (f : Option LineFault) → cites_fault x.line.rule x.around.scope x.line.cites ≡ Some g → f ≡ Some (l.Step g) → IsTautStepFault x f
cites_answer x g f c e = subst (λ o. IsTested o (IsTableFault x) f) (sym c) e

pub cites_fail : (ls : List FlatLine) (j : ℕ) (t : Result (Unit {0}) StepFault) (f : Option LineFault) → ((u : Unit {0}) → t ≡ Ok u → ⊥) → AtLine ls j (λ x. CiteVerdict (cites_fault x.line.rule x.around.scope x.line.cites) t) →
    MatchResult t (λ _. f ≡ None) (λ g. (f ≡ Some (l.Step g)) × (g ≢ fault.Memory)) → AtLine ls j (λ x. IsTautStepFault x f)
cites_fail ls j (Ok u) f n h e = absurd (n u refl)
cites_fail ls j (Err g) f n h e = at_line ls j (λ x. CiteVerdict (cites_fault x.line.rule x.around.scope x.line.cites) (Err g)) (λ x. IsTautStepFault x f) (λ x k. cites_answer x g f k e.0) h

-- a step whose cites are in order, by the truth table
pub cites_pass : (ls : List FlatLine) (j : ℕ) (f : Option LineFault) → AtLine ls j (λ x. cites_fault x.line.rule x.around.scope x.line.cites ≡ None) → AtLine ls j (λ x. IsTableFault x f) → AtLine ls j (λ x. IsTautStepFault x f)
cites_pass ls j f c h =
    at_both ls j (λ x. cites_fault x.line.rule x.around.scope x.line.cites ≡ None) (λ x. IsTableFault x f) (λ x. IsTautStepFault x f)
    (λ x i k. subst (λ g. IsTested g (IsTableFault x) f) (sym i) k) c h

-- no fault means yes
yes_alone : (a : TautAnswer) → None ≡ taut_fault a → a ≡ Yes
yes_alone Yes e = refl
yes_alone (No row) e = cc
yes_alone (TooManyLetters n) e = cc

-- what a consequence rule says yes to is derivable
pub yes_shows : (rule : Rule) (ps : List Sent) (s : Sent) → AreStatements ps → IsTrue (statement s) → answers rule ps s None → Der (ps ++ []) s
yes_shows r.TautCon ps s c f h = subst (λ gs. Der gs s) (sym (append-nil ps)) (yes_derivable ps s c f (yes_alone (taut_answer ps s) h))
yes_shows rule ps s c f h = absurd h

-- a consequence rule gives one answer
pub answer_once : AreOne answers
answer_once r.TautCon ps s a b h k = h ∙ sym k
answer_once rule ps s a b h k = absurd h
