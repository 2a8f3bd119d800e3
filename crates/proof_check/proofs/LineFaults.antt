-- From what the code tests of a flat line to the first failure of its placed line.
use Rattle.std.proofs.Common.{◌≡◌, ◌≢◌, ℕ, ◌-◌, ◌<◌, ◌≤◌, true, false, List, [], ◌∷◌, length, get_or, refl, ap, sym, subst, ◌∙◌, Option, Some, None, Contains, Result, Ok, Err, IfOk, Bool, IsTrue, ◌⊎◌, inl, inr, true≢false}
use Rattle.std.specs.Prelude.{slice_get, MatchOption, MatchResult, IfErr, IfSome, OnOk, OnErr, ◌↔◌}
use Rattle.std.specs.List.{AllByRecursion}
use Rattle.fol_core.specs.declared.sent.Sent.{Sent}
use Rattle.fol_core.specs.Word.{Word}
use Rattle.deriv_laws.specs.declared.rule.Rule.{Rule}
use Rattle.deriv_laws.specs.declared.rule.Rule.TheVariants as r
use Rattle.deriv_laws.specs.declared.line.FlatLine.{FlatLine}
use Rattle.deriv_laws.specs.declared.line.StepFault.{StepFault}
use Rattle.deriv_laws.specs.declared.line.StepFault.TheVariants as fault
use Rattle.nested_proofs.specs.Scope.{Subproof, cited_sentences, cited_subproofs}
use Rattle.nested_proofs.specs.Placed.{Placed}
use Rattle.nested_proofs.specs.Rules.{Follows, StaysArbitrary}
use Rattle.nested_proofs.specs.FollowsAt.{FollowsAt}
use Rattle.nested_proofs.specs.StaysAt.{StaysAt}
use Rattle.nested_proofs.specs.CiteTests.{cites_fault, IsVerdict as CiteVerdict}
use Rattle.nested_proofs.specs.Fresh.{HasFreshBox}
use Rattle.nested_proofs.specs.Nesting.{IsShaped, WellNested}
use Rattle.nested_proofs.specs.AtLine.{AtLine}
use Rattle.nested_proofs.specs.Placed.{lines_of}
use Rattle.nested_proofs.proofs.Reading.{where_agrees, at_each, line_at, at_line}
use Rattle.nested_proofs.proofs.VisibleSentences.{both_turn}
use Rattle.nested_proofs.specs.Faults.{Failure, NotAPremise, NotAllowed, AsStep, IsBoxFailure, IsFailureBy, IsStepFailure, IsLastFailure, IsConsequenceFailure}
use Rattle.rules_prop.specs.Propositional.{is_propositional}
use Rattle.rules_quant.specs.Quantified.{is_quantified}
use Rattle.rules_quant.specs.FailsAs.{FailsAs}
use Rattle.proof_check.specs.declared.verdict.LineFault.{LineFault}
use Rattle.proof_check.specs.declared.verdict.LineFault.TheVariants as l
use Rattle.fitch_file.specs.declared.task.Task.{Task}
use Rattle.proof_check.specs.Failing.{is_own, is_allowed, answers, IsLineFailure, IsLineFault}
use Rattle.proof_check.specs.Readers.{IsTested, IsRuleFault, IsBoxFault, IsStepFault, Stands}

-- what the rule of a step says of the sentence
abbrev FollowsBy : Placed → Rule → Sent → Type 0
FollowsBy x rule s = Follows rule (cited_sentences x.around.scope x.line.cites) (cited_subproofs x.around.scope x.line.cites) s

abbrev StaysBy : Placed → Rule → Sent → Type 0
StaysBy x rule s = StaysArbitrary rule (cited_sentences x.around.scope x.line.cites) (cited_subproofs x.around.scope x.line.cites) s

-- a line fails as its rule and its sentence say
pub by_rule : (task : Task) (x : Placed) (rule : Rule) (s : Option Sent) (o : Option (Failure LineFault)) → x.line.rule ≡ rule → x.line.sentence ≡ s →
    IsFailureBy (is_allowed task.allowed) answers task.premises x rule s o → IsLineFailure task x o
by_rule task x rule s o e f h =
    subst (λ r'. IsFailureBy (is_allowed task.allowed) answers task.premises x r' x.line.sentence o) (sym e) (subst (λ s'. IsFailureBy (is_allowed task.allowed) answers task.premises x rule s' o) (sym f) h)

-- a premise
pub premise_there : (task : Task) (x : Placed) (s : Sent) → x.line.rule ≡ r.Premise → x.line.sentence ≡ Some s → Contains task.premises s → IsLineFault task x None
premise_there task x s e f h = by_rule task x r.Premise (Some s) None e f h

pub premise_missing : (task : Task) (x : Placed) (s : Sent) → x.line.rule ≡ r.Premise → x.line.sentence ≡ Some s → (Contains task.premises s → ⊥) → IsLineFault task x (Some l.NotAPremise)
premise_missing task x s e f h = (NotAPremise, by_rule task x r.Premise (Some s) (Some NotAPremise) e f h, refl)

-- an opening
opened : (task : Task) (x : Placed) (o : Option (Failure LineFault)) → (x.line.rule ≡ r.Assume) ⊎ (x.line.rule ≡ r.BoxOnly) → IsBoxFailure task.premises x.around x.line.boxed o → IsLineFailure task x o
opened task x o (inl e) h = by_rule task x r.Assume x.line.sentence o e refl h
opened task x o (inr e) h = by_rule task x r.BoxOnly x.line.sentence o e refl h

pub opening_tested : (task : Task) (x : Placed) (f : Option LineFault) → (x.line.rule ≡ r.Assume) ⊎ (x.line.rule ≡ r.BoxOnly) → IsBoxFault task.premises x f → IsLineFault task x f
opening_tested task x None e h = opened task x None e h
opening_tested task x (Some f) e (c, b, g, n) =
    (AsStep (fault.NotFresh c), opened task x (Some (AsStep (fault.NotFresh c))) e (subst (λ d. IsBoxFailure {A = LineFault} task.premises x.around d (Some (AsStep (fault.NotFresh c)))) (sym b) (refl, n)), g)

-- a rule that isn't allowed
not_allowed : (task : Task) (x : Placed) (rule : Rule) (s : Sent) → is_allowed task.allowed rule ≡ false → (rule ≡ r.Premise → ⊥) → (rule ≡ r.Assume → ⊥) → (rule ≡ r.BoxOnly → ⊥) →
    IsFailureBy (is_allowed task.allowed) answers task.premises x rule (Some s) (Some NotAllowed)
not_allowed task x r.Premise s e p a b = absurd (p refl)
not_allowed task x r.Assume s e p a b = absurd (a refl)
not_allowed task x r.BoxOnly s e p a b = absurd (b refl)
not_allowed task x r.TautCon s e p a b =
    subst (λ c. IsConsequenceFailure c (cites_fault r.TautCon x.around.scope x.line.cites) (answers r.TautCon (cited_sentences x.around.scope x.line.cites) s) (Some NotAllowed)) (sym e) refl
not_allowed task x r.FoCon s e p a b = refl
not_allowed task x r.AnaCon s e p a b = refl
not_allowed task x rule s e p a b = cc

pub rule_refused : (task : Task) (x : Placed) (s : Sent) → x.line.sentence ≡ Some s → is_allowed task.allowed x.line.rule ≡ false →
    (x.line.rule ≡ r.Premise → ⊥) → (x.line.rule ≡ r.Assume → ⊥) → (x.line.rule ≡ r.BoxOnly → ⊥) → IsLineFault task x (Some l.RuleNotAllowed)
rule_refused task x s f e p a o = (NotAllowed, by_rule task x x.line.rule (Some s) (Some NotAllowed) refl f (not_allowed task x x.line.rule s e p a o), refl)

-- a step by a rule of the system itself
as_step : (task : Task) (x : Placed) (rule : Rule) (s : Sent) (o : Option (Failure LineFault)) → is_own rule ≡ true →
    IsStepFailure true (cites_fault rule x.around.scope x.line.cites) (FollowsBy x rule s) (StaysBy x rule s) (cited_subproofs x.around.scope x.line.cites) o →
    IsFailureBy (is_allowed task.allowed) answers task.premises x rule (Some s) o
as_step task x r.Premise s o e h = cc
as_step task x r.Assume s o e h = cc
as_step task x r.BoxOnly s o e h = cc
as_step task x r.TautCon s o e h = cc
as_step task x r.FoCon s o e h = cc
as_step task x r.AnaCon s o e h = cc
as_step task x rule s o e h = h

-- with the line's sentence at hand, following is a fact of it
followed : (x : Placed) (s : Sent) → x.line.sentence ≡ Some s → FollowsAt x → FollowsBy x x.line.rule s
followed x s e (t, f, h) = let i : t ≡ s = cc in subst (λ u. FollowsBy x x.line.rule u) i h

stayed : (x : Placed) (s : Sent) → x.line.sentence ≡ Some s → StaysAt x → StaysBy x x.line.rule s
stayed x s e h = subst (λ t. IfSome t (λ u. StaysBy x x.line.rule u)) e h

stays : (x : Placed) (s : Sent) → x.line.sentence ≡ Some s → StaysBy x x.line.rule s → StaysAt x
stays x s e h = subst (λ t. IfSome t (λ u. StaysBy x x.line.rule u)) (sym e) h

-- why a step with this sentence fails
failed : (x : Placed) (s : Sent) (e : StepFault) → x.line.sentence ≡ Some s → e ≢ fault.Memory → FailsAs e x →
    IsLastFailure {A = LineFault} (FollowsBy x x.line.rule s) (StaysBy x x.line.rule s) (cited_subproofs x.around.scope x.line.cites) (Some (AsStep e))
failed x s fault.NotFollows i n h = λ k. h (s, i, k)
failed x s (fault.NotFresh c) i n (f, k, (b, e, g)) = (followed x s i f, λ v. k (stays x s i v), b, e, g)
failed x s fault.Memory i n h = absurd (n refl)
failed x s e i n h = absurd h

-- what the tests of a step come to
tested : (task : Task) (x : Placed) (s : Sent) (e : Option StepFault) (f : Option LineFault) → x.line.sentence ≡ Some s → IsTested e (IsRuleFault x) f →
    ((o : Option (Failure LineFault)) → IsStepFailure true e (FollowsBy x x.line.rule s) (StaysBy x x.line.rule s) (cited_subproofs x.around.scope x.line.cites) o → IsLineFailure task x o) → IsLineFault task x f
tested task x s (Some e) f i h t = subst (λ g. IsLineFault task x g) (sym h) (AsStep e, t (Some (AsStep e)) refl, refl)
tested task x s None None i h t = t None (followed x s i h.0, stayed x s i h.1)
tested task x s None (Some f) i (e, g, n, h) t = (AsStep e, t (Some (AsStep e)) (failed x s e i n h), g)

pub step_tested : (task : Task) (x : Placed) (s : Sent) (f : Option LineFault) → x.line.sentence ≡ Some s → is_own x.line.rule ≡ true → IsStepFault x f → IsLineFault task x f
step_tested task x s f e a h =
    tested task x s (cites_fault x.line.rule x.around.scope x.line.cites) f e h
    (λ o k. by_rule task x x.line.rule (Some s) o refl e (as_step task x x.line.rule s o a k))

-- the constant of a propositional rule stays arbitrary, since there is none
unboxed_rule : (rule : Rule) (ps : List Sent) (bs : List Subproof) (s : Sent) → is_propositional rule ≡ true → StaysArbitrary rule ps bs s
unboxed_rule r.AllIntro ps bs s e = cc
unboxed_rule r.ExElim ps bs s e = cc
unboxed_rule rule ps bs s e = tt

-- what the flat lines say of line j

-- each of well-nested lines has the shape of its rule
shaped : (k : ℕ) (ls : List FlatLine) → WellNested k ls → AllByRecursion (λ l'. IsShaped l' l'.rule) ls
shaped k [] h = tt
shaped k (y ∷ ls) h = (h.0, shaped y.depth ls h.3)

-- a line that doesn't open a subproof by a box alone has a sentence
pub stated : (y : FlatLine) (rule : Rule) → IsShaped y rule → (rule ≡ r.BoxOnly → ⊥) → (s : Sent) × (y.sentence ≡ Some s)
stated y r.Assume h n = (h.0, h.1)
stated y r.BoxOnly h n = absurd (n refl)
stated y r.Premise h n = (h.0, h.1)
stated y rule h n = (h.0, h.1)

-- a property of line j by its flat line
pub of_line : (ls : List FlatLine) (j : ℕ) (y : FlatLine) (Q : Placed → Type 0) → 0 < j → j ≤ length ls → y ≡ get_or ls (j - 1) y → ((x : Placed) → x.line ≡ y → Q x) → AtLine ls j Q
of_line ls j y Q low high e t = where_agrees ls j Q (λ x a. t x (let f : slice_get ls (j - 1) ≡ Some x.line = a.line in let g : slice_get ls (j - 1) ≡ Some y = line_at ls j y low high e in let h : x.line ≡ y = cc in h))

-- two properties of line j
pub at_both : (ls : List FlatLine) (j : ℕ) (P Q R : Placed → Type 0) → ((x : Placed) → P x → Q x → R x) → AtLine ls j P → AtLine ls j Q → AtLine ls j R
at_both ls j P Q R t h k p o e = both_turn (λ (x : Placed). x.number ≡ j → P x) (λ (x : Placed). x.number ≡ j → Q x) (λ (x : Placed). x.number ≡ j → R x) (λ x f g n. t x (f n) (g n)) (lines_of p) (h p o e) (k p o e)

-- the flat line has the shape of its rule
pub shape_at : (ls : List FlatLine) (j : ℕ) (y : FlatLine) → WellNested 1 ls → 0 < j → j ≤ length ls → y ≡ get_or ls (j - 1) y → IsShaped y y.rule
shape_at ls j y w low high e = at_each (λ l'. IsShaped l' l'.rule) ls (j - 1) y (shaped 1 ls w) (line_at ls j y low high e)

pub at_premise : (task : Task) (ls : List FlatLine) (j : ℕ) (y : FlatLine) (f : Option LineFault) → WellNested 1 ls → 0 < j → j ≤ length ls → y ≡ get_or ls (j - 1) y → y.rule ≡ r.Premise →
    MatchOption f ((s : Sent) × (y.sentence ≡ Some s) × Contains task.premises s) (λ g. (g ≡ l.NotAPremise) × ((s : Sent) → y.sentence ≡ Some s → Contains task.premises s → ⊥)) → AtLine ls j (λ x. IsLineFault task x f)
at_premise task ls j y None w low high e i h =
    of_line ls j y (λ x. IsLineFault task x None) low high e
    (λ x q. premise_there task x h.0 (ap (λ (z : FlatLine). z.rule) q ∙ i) (ap (λ (z : FlatLine). z.sentence) q ∙ h.1) h.2)
at_premise task ls j y (Some g) w low high e i h =
    let s = stated y y.rule (shape_at ls j y w low high e) (λ n. cc) in
    of_line ls j y (λ x. IsLineFault task x (Some g)) low high e
    (λ x q. subst (λ g'. IsLineFault task x (Some g')) (sym h.0)
    (premise_missing task x s.0 (ap (λ (z : FlatLine). z.rule) q ∙ i) (ap (λ (z : FlatLine). z.sentence) q ∙ s.1) (h.1 s.0 s.1)))

pub at_opening : (task : Task) (ls : List FlatLine) (j : ℕ) (y : FlatLine) (f : Option LineFault) → 0 < j → j ≤ length ls → y ≡ get_or ls (j - 1) y → (y.rule ≡ r.Assume) ⊎ (y.rule ≡ r.BoxOnly) →
    AtLine ls j (λ x. IsBoxFault task.premises x f) → AtLine ls j (λ x. IsLineFault task x f)
at_opening task ls j y f low high e i h =
    at_both ls j (λ x. x.line ≡ y) (λ x. IsBoxFault task.premises x f) (λ x. IsLineFault task x f)
    (λ x q k. opening_tested task x f (subst (λ r'. (r' ≡ r.Assume) ⊎ (r' ≡ r.BoxOnly)) (ap (λ (z : FlatLine). z.rule) (sym q)) i) k)
    (of_line ls j y (λ x. x.line ≡ y) low high e (λ x q. q)) h

-- the fault of a box that isn't fresh, by the flat line
pub at_stale : (premises : List Sent) (ls : List FlatLine) (j : ℕ) (y : FlatLine) (fresh : Bool) (c d : Word) → 0 < j → j ≤ length ls → y ≡ get_or ls (j - 1) y → fresh ≡ false → y.boxed ≡ Some c → d ≡ c →
    AtLine ls j (λ x. IsTrue fresh ↔ HasFreshBox premises x.around x.line.boxed) → AtLine ls j (λ x. IsBoxFault premises x (Some (l.Step (fault.NotFresh d))))
at_stale premises ls j y fresh c d low high e n b i h =
    at_both ls j (λ x. x.line ≡ y) (λ x. IsTrue fresh ↔ HasFreshBox premises x.around x.line.boxed) (λ x. IsBoxFault premises x (Some (l.Step (fault.NotFresh d))))
    (λ x q k. let b' : x.line.boxed ≡ Some c = ap (λ (z : FlatLine). z.boxed) q ∙ b in
    (c, b', ap (λ w. l.Step (fault.NotFresh w)) i, λ g. true≢false (sym (k.1 (subst (λ o. HasFreshBox premises x.around o) (sym b') g)) ∙ n)))
    (of_line ls j y (λ x. x.line ≡ y) low high e (λ x q. q)) h

-- a line without a box, or with a fresh one
pub at_fresh : (premises : List Sent) (ls : List FlatLine) (j : ℕ) (fresh : Bool) → fresh ≡ true → AtLine ls j (λ x. IsTrue fresh ↔ HasFreshBox premises x.around x.line.boxed) → AtLine ls j (λ x. IsBoxFault premises x None)
at_fresh premises ls j fresh t h = at_line ls j (λ x. IsTrue fresh ↔ HasFreshBox premises x.around x.line.boxed) (λ x. IsBoxFault premises x None) (λ x k. k.0 t) h

pub at_unboxed : (premises : List Sent) (ls : List FlatLine) (j : ℕ) (y : FlatLine) → 0 < j → j ≤ length ls → y ≡ get_or ls (j - 1) y → y.boxed ≡ None → AtLine ls j (λ x. IsBoxFault premises x None)
at_unboxed premises ls j y low high e b =
    of_line ls j y (λ x. IsBoxFault premises x None) low high e (λ x q. subst (λ o. HasFreshBox premises x.around o) (sym (ap (λ (z : FlatLine). z.boxed) q ∙ b)) tt)

-- what a success says, turned into what follows from it
pub turned : {A E : Type 0} (o : Result A E) (P Q : A → Type 0) → ((a : A) → P a → Q a) → IfOk o P → IfOk o Q
turned (Ok a) P Q f h = f a h
turned (Err e) P Q f h = tt

-- a step whose cites fail
cites_answer : (x : Placed) (g : StepFault) (f : Option LineFault) → cites_fault x.line.rule x.around.scope x.line.cites ≡ Some g → f ≡ Some (l.Step g) → IsStepFault x f
cites_answer x g f c e = subst (λ o. IsTested o (IsRuleFault x) f) (sym c) e

pub cites_fail : (ls : List FlatLine) (j : ℕ) (t : Result (Unit {0}) StepFault) (f : Option LineFault) → ((u : Unit {0}) → t ≡ Ok u → ⊥) → AtLine ls j (λ x. CiteVerdict (cites_fault x.line.rule x.around.scope x.line.cites) t) →
    MatchResult t (λ _. f ≡ None) (λ g. (f ≡ Some (l.Step g)) × (g ≢ fault.Memory)) → AtLine ls j (λ x. IsStepFault x f)
cites_fail ls j (Ok u) f n h e = absurd (n u refl)
cites_fail ls j (Err g) f n h e = at_line ls j (λ x. CiteVerdict (cites_fault x.line.rule x.around.scope x.line.cites) (Err g)) (λ x. IsStepFault x f) (λ x k. cites_answer x g f k e.0) h

-- a step whose cites are in order, by the answer of its rule's test
pub cites_pass : (ls : List FlatLine) (j : ℕ) (t : Result (Unit {0}) StepFault) (f : Option LineFault) → AtLine ls j (λ x. cites_fault x.line.rule x.around.scope x.line.cites ≡ None) →
    OnOk t (AtLine ls j Stands) → IfErr t (λ g. AtLine ls j (FailsAs g)) → MatchResult t (λ _. f ≡ None) (λ g. (f ≡ Some (l.Step g)) × (g ≢ fault.Memory)) → AtLine ls j (λ x. IsStepFault x f)
cites_pass ls j (Ok u) f c h k e =
    at_both ls j (λ x. cites_fault x.line.rule x.around.scope x.line.cites ≡ None) Stands (λ x. IsStepFault x f)
    (λ x i w. subst (λ g. IsStepFault x g) (sym e) (subst (λ g. IsTested g (IsRuleFault x) None) (sym i) w)) c h
cites_pass ls j (Err g) f c h k e =
    at_both ls j (λ x. cites_fault x.line.rule x.around.scope x.line.cites ≡ None) (FailsAs g) (λ x. IsStepFault x f)
    (λ x i w. subst (λ g'. IsStepFault x g') (sym e.0) (subst (λ g'. IsTested g' (IsRuleFault x) (Some (l.Step g))) (sym i) (g, refl, e.1, w))) c k

-- the answer of the test of a propositional rule
stands_unboxed : (x : Placed) → is_propositional x.line.rule ≡ true → StaysAt x
stands_unboxed x e = go x.line.sentence
  where
    go : (o : Option Sent) → IfSome o (λ s. StaysBy x x.line.rule s)
    go None = tt
    go (Some s) = unboxed_rule x.line.rule (cited_sentences x.around.scope x.line.cites) (cited_subproofs x.around.scope x.line.cites) s e

pub prop_stands : (ls : List FlatLine) (j : ℕ) (t : Result (Unit {0}) StepFault) → AtLine ls j (λ x. is_propositional x.line.rule ≡ true) → OnOk t (AtLine ls j FollowsAt) → OnOk t (AtLine ls j Stands)
prop_stands ls j (Ok u) p h = at_both ls j (λ x. is_propositional x.line.rule ≡ true) FollowsAt Stands (λ x e k. (k, stands_unboxed x e)) p h
prop_stands ls j (Err e) p h = tt

pub prop_fails : (ls : List FlatLine) (j : ℕ) (t : Result (Unit {0}) StepFault) → IfErr t (λ e. e ≡ fault.NotFollows) → OnErr t (AtLine ls j (λ x. FollowsAt x → ⊥)) → IfErr t (λ e. AtLine ls j (FailsAs e))
prop_fails ls j (Ok u) e h = tt
prop_fails ls j (Err g) e h = subst (λ g'. AtLine ls j (FailsAs g')) (sym e) h

pub quant_stands : (ls : List FlatLine) (j : ℕ) (t : Result (Unit {0}) StepFault) → OnOk t (AtLine ls j FollowsAt) → OnOk t (AtLine ls j StaysAt) → OnOk t (AtLine ls j Stands)
quant_stands ls j (Ok u) h k = at_both ls j FollowsAt StaysAt Stands (λ x f s. (f, s)) h k
quant_stands ls j (Err e) h k = tt

-- the rule of line j, by the flat line
pub at_kind : (kind : Rule → Bool) (ls : List FlatLine) (j : ℕ) (y : FlatLine) → 0 < j → j ≤ length ls → y ≡ get_or ls (j - 1) y → kind y.rule ≡ true → AtLine ls j (λ x. kind x.line.rule ≡ true)
at_kind kind ls j y low high e a = of_line ls j y (λ x. kind x.line.rule ≡ true) low high e (λ x q. ap (λ (z : FlatLine). kind z.rule) q ∙ a)

-- a rule of the system itself at line j that isn't propositional
other_kind : (rule : Rule) → is_propositional rule ≡ false → is_own rule ≡ true → is_quantified rule ≡ true
other_kind rule n a = cc

pub at_other : (ls : List FlatLine) (j : ℕ) (y : FlatLine) → 0 < j → j ≤ length ls → y ≡ get_or ls (j - 1) y → is_propositional y.rule ≡ false → AtLine ls j (λ x. is_own x.line.rule ≡ true) → AtLine ls j (λ x. is_quantified x.line.rule ≡ true)
at_other ls j y low high e n h =
    at_both ls j (λ x. x.line ≡ y) (λ x. is_own x.line.rule ≡ true) (λ x. is_quantified x.line.rule ≡ true)
    (λ x q a. other_kind x.line.rule (ap (λ (z : FlatLine). is_propositional z.rule) q ∙ n) a)
    (of_line ls j y (λ x. x.line ≡ y) low high e (λ x q. q)) h
