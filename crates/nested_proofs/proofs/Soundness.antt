-- The induction over a nested proof: each justified line states what is derivable from what is open there.
use Rattle.std.proofs.Common.{◌≡◌, ℕ, ◌+◌, List, ◌∷◌, ◌++◌, subst, Option, Some, None, IsTrue, Bool, false, Contains}
use Rattle.std.specs.Prelude.{IfSome}
use Rattle.std.specs.List.{AllByRecursion}
use Rattle.fol_core.specs.declared.sent.Sent.{Sent}
use Rattle.fol_core.specs.Statements.{statement}
use Rattle.fol_core.specs.Subst.{occurs}
use Rattle.deriv_laws.specs.declared.rule.Rule.{Rule}
use Rattle.deriv_laws.specs.declared.line.Cite.{Cite}
use Rattle.deriv_laws.specs.declared.line.FlatLine.{FlatLine}
use Rattle.deriv_laws.specs.Derivable.{Der}
use Rattle.deriv_laws.proofs.Lists.{all_both, all_left, all_right, all_turn}
use Rattle.deriv_laws.proofs.Members.{contains_here, contains_left, contains_right, contains_append}
use Rattle.deriv_laws.proofs.Laws.{assume, weaken, der_stated}
use Rattle.deriv_laws.proofs.Connectives.{cuts}
use Rattle.nested_proofs.specs.Items.{Opening, Assumes, Boxes, Items, Done, Step, Sub, box_of, assumption_of, step_line, opening_line, size, opens, AreProper}
use Rattle.nested_proofs.specs.Scope.{prepend, cited_sentences, cited_subproofs}
use Rattle.nested_proofs.specs.Placed.{Around, Placed, placed, outside, after_step, inside, after_sub, last_of}
use Rattle.nested_proofs.specs.Fresh.{HasFreshBox}
use Rattle.nested_proofs.specs.declared.kind.RuleKind.{RuleKind}
use Rattle.nested_proofs.specs.declared.kind.RuleKind.TheVariants as kind
use Rattle.nested_proofs.specs.Kinds.{kind_of, opens_subproof}
use Rattle.nested_proofs.specs.Justified.{Consequence, IsOwnStep, IsJustifiedAs, IsJustifiedBy, IsJustified, HasStatement}
use Rattle.nested_proofs.specs.Soundness.{IsDerived, IsSoundOver, HaveNoName, EachLineIsDerived, LastLineIsDerived, FaultlessProofShows}
use Rattle.nested_proofs.proofs.Standing.{Leads, Good, Base, good_outside, good_step, good_inside, good_after}
use Rattle.nested_proofs.proofs.Cited.{sentences_cited, subproofs_cited}
use Rattle.nested_proofs.proofs.Steps.{by_rule}
use Rattle.nested_proofs.specs.Faults.{Answers, IsFirstFailure, says_yes}
use Rattle.nested_proofs.proofs.Failures.{no_failure_justifies}

by_con : (con : Consequence) (premises base : List Sent) (t : Base con premises base) (a : Around) (line : FlatLine) (rule : Rule) (s : Sent) → Good base a → IsTrue (statement s) →
    con rule (cited_sentences a.scope line.cites) s → Der (a.assumed ++ base) s
by_con con premises base t a line rule s g c f = t.consequence a.assumed rule (cited_sentences a.scope line.cites) s (sentences_cited (λ p. Der (a.assumed ++ base) p) a.scope line.cites g.sentences) c f

by_own : (con : Consequence) (premises base : List Sent) (a : Around) (line : FlatLine) (rule : Rule) (s : Sent) → Good base a → IsTrue (statement s) → IsOwnStep a line rule s → Der (a.assumed ++ base) s
by_own con premises base a line rule s g c f =
    by_rule (a.assumed ++ base) rule (cited_sentences a.scope line.cites) (cited_subproofs a.scope line.cites) s
    (sentences_cited (λ p. Der (a.assumed ++ base) p) a.scope line.cites g.sentences)
    (subproofs_cited (Leads (a.assumed ++ base)) a.scope line.cites g.subproofs) c f.0 f.1

step_of_kind : (con : Consequence) (premises base : List Sent) (t : Base con premises base) (a : Around) (line : FlatLine) (of : RuleKind) (rule : Rule) (s : Sent) → Good base a → IsTrue (statement s) → opens_subproof of ≡ false →
    IsJustifiedAs con premises a line of rule (Some s) → Der (a.assumed ++ base) s
step_of_kind con premises base t a line kind.Premise rule s g c o f = assume (a.assumed ++ base) s (contains_right a.assumed base s (t.has s f)) c
step_of_kind con premises base t a line kind.Opening rule s g c o f = cc
step_of_kind con premises base t a line kind.Propositional rule s g c o f = by_own con premises base a line rule s g c f
step_of_kind con premises base t a line kind.Quantified rule s g c o f = by_own con premises base a line rule s g c f
step_of_kind con premises base t a line kind.Consequence rule s g c o f = by_con con premises base t a line rule s g c f

by_step : (con : Consequence) (premises base : List Sent) (t : Base con premises base) (a : Around) (line : FlatLine) (rule : Rule) (s : Sent) → Good base a → IsTrue (statement s) → opens rule ≡ false →
    IsJustifiedBy con premises a line rule (Some s) → Der (a.assumed ++ base) s
by_step con premises base t a line rule s g c o f = step_of_kind con premises base t a line (kind_of rule) rule s g c o f

-- What the induction shows of the items of a list: each line is derived, and so is the last sentence of the list.
pub record Shows (base : List Sent) (a : Around) (k d : ℕ) (items : Items) : Type 0 where
  pub lines : AllByRecursion (IsDerived base) (placed a k d items)
  pub last : (before : Option Sent) → IfSome before (λ p. Der (a.assumed ++ base) p) → IfSome (last_of before items) (λ p. Der (a.assumed ++ base) p)

opening_derived : (base : List Sent) (a : Around) (k d : ℕ) (o : Opening) → HasStatement (record { number = k; line = opening_line d o; around = a }) → IsDerived base (record { number = k; line = opening_line d o; around = a })
opening_derived base a k d (Assumes b p) h = assume (p ∷ (a.assumed ++ base)) p (contains_here p (a.assumed ++ base)) h
opening_derived base a k d (Boxes c) h = tt

opening_stated : (a : Around) (k d : ℕ) (o : Opening) → HasStatement (record { number = k; line = opening_line d o; around = a }) → IfSome (assumption_of o) (λ p. IsTrue (statement p))
opening_stated a k d (Assumes b p) h = h
opening_stated a k d (Boxes c) h = tt

opening_fresh : (con : Consequence) (premises : List Sent) (a : Around) (k d : ℕ) (o : Opening) → IsJustified con premises (record { number = k; line = opening_line d o; around = a }) → HasFreshBox premises a (box_of o)
opening_fresh con premises a k d (Assumes b p) h = h
opening_fresh con premises a k d (Boxes c) h = h

step_derived : (base : List Sent) (a : Around) (k d : ℕ) (s : Sent) (rule : Rule) (cites : List Cite) → opens rule ≡ false → Der (a.assumed ++ base) s → IsDerived base (record { number = k; line = step_line d s rule cites; around = a })
step_derived base a k d s rule cites o h = rw o h

last_inside : (base : List Sent) (a : Around) (k d : ℕ) (o : Opening) (body : Items) → IfSome (assumption_of o) (λ p. IsTrue (statement p)) → Shows base (inside k o a) (k + 1) d body →
    IfSome (last_of (assumption_of o) body) (λ q. Der (prepend (assumption_of o) (a.assumed ++ base)) q)
last_inside base a k d (Assumes b p) body c w = w.last (Some p) (assume (p ∷ (a.assumed ++ base)) p (contains_here p (a.assumed ++ base)) c)
last_inside base a k d (Boxes c) body h w = w.last None tt

shows : (con : Consequence) (premises base : List Sent) (t : Base con premises base) (a : Around) (k d : ℕ) (items : Items) → Good base a → AreProper items →
    AllByRecursion HasStatement (placed a k d items) → AllByRecursion (IsJustified con premises) (placed a k d items) → Shows base a k d items
shows con premises base t a k d Done g o c f = record { lines = tt; last = λ before h. h }
shows con premises base t a k d (Step s rule cites rest) g o c f =
    let h : Der (a.assumed ++ base) s = by_step con premises base t a (step_line d s rule cites) rule s g c.0 o.0 f.0 in
    let w : Shows base (after_step k s a) (k + 1) d rest = shows con premises base t (after_step k s a) (k + 1) d rest (good_step base a k s g h) o.1 c.1 f.1 in
    record { lines = (step_derived base a k d s rule cites o.0 h, w.lines); last = λ before i. w.last (Some s) h }
shows con premises base t a k d (Sub op body rest) g o c f =
    let inner : List Placed = placed (inside k op a) (k + 1) (d + 1) body in
    let later : List Placed = placed (after_sub k op body a) (k + 1 + size body) d rest in
    let e : IfSome (assumption_of op) (λ p. IsTrue (statement p)) = opening_stated a k (d + 1) op c.0 in
    let w : Shows base (inside k op a) (k + 1) (d + 1) body =
    shows con premises base t (inside k op a) (k + 1) (d + 1) body (good_inside base a k op g e) o.0 (all_left HasStatement inner later c.1) (all_left (IsJustified con premises) inner later f.1) in
    let l : Good base (after_sub k op body a) = good_after con premises base t a k op body g (opening_fresh con premises a k (d + 1) op f.0) e (last_inside base a k (d + 1) op body e w) in
    let v : Shows base (after_sub k op body a) (k + 1 + size body) d rest =
    shows con premises base t (after_sub k op body a) (k + 1 + size body) d rest l o.1 (all_right HasStatement inner later c.1) (all_right (IsJustified con premises) inner later f.1) in
    record { lines = (opening_derived base a k (d + 1) op c.0, all_both (IsDerived base) inner later w.lines v.lines); last = λ before h. v.last before h }

-- the base of premises and axioms
base_of : (con : Consequence) (axioms premises : List Sent) → IsSoundOver con axioms → HaveNoName axioms → Base con premises (premises ++ axioms)
base_of con axioms premises sound nameless = record {
  has = λ x i. contains_left premises axioms x i;
  free = λ c f. all_both (λ s. occurs c s ≡ false) premises axioms f (nameless c);
  consequence = λ hs rule ps s h c f.
      let gs : List Sent = hs ++ (premises ++ axioms) in
      let k : Der (ps ++ axioms) s = sound rule ps s (all_turn (λ p. Der gs p) (λ p. IsTrue (statement p)) (λ p d. der_stated gs p d) ps h) c f in
      cuts gs ps s h (weaken (ps ++ axioms) (ps ++ gs) s
      (λ x i. contains_append (Contains (ps ++ gs) x) ps axioms x (λ j. contains_left ps gs x j) (λ j. contains_right ps gs x (contains_right hs (premises ++ axioms) x (contains_right premises axioms x j))) i) k);
}

pub each_line_is_derived : (con : Consequence) (axioms : List Sent) → EachLineIsDerived con axioms
each_line_is_derived con axioms premises items sound nameless o c f =
    (shows con premises (premises ++ axioms) (base_of con axioms premises sound nameless) outside 1 1 items (good_outside (premises ++ axioms)) o c f).lines

pub last_line_is_derived : (con : Consequence) (axioms : List Sent) → LastLineIsDerived con axioms
last_line_is_derived con axioms premises items goal sound nameless o c f e =
    subst (λ x. IfSome x (λ p. Der (premises ++ axioms) p)) e
    ((shows con premises (premises ++ axioms) (base_of con axioms premises sound nameless) outside 1 1 items (good_outside (premises ++ axioms)) o c f).last None tt)

pub faultless_proof_shows : {A : Type 0} (allowed : Rule → Bool) (answers : Answers A) (axioms : List Sent) → FaultlessProofShows allowed answers axioms
faultless_proof_shows allowed answers axioms premises items goal sound nameless o c f e =
    last_line_is_derived (says_yes allowed answers) axioms premises items goal sound nameless o c
    (all_turn (λ (x : Placed). IsFirstFailure allowed answers premises x None) (IsJustified (says_yes allowed answers) premises) (λ x h. no_failure_justifies allowed answers premises x h) (placed outside 1 1 items) f) e
