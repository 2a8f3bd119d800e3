-- What stands around a line: what may be cited there is derivable from what is open there.
use Rattle.std.proofs.Common.{ℕ, List, ◌∷◌, ◌++◌, Option, Some, None, IsTrue, false, Contains}
use Rattle.std.specs.Prelude.{◌≡◌, IfSome}
use Rattle.std.specs.List.{AllByRecursion}
use Rattle.fol_core.specs.declared.sent.Sent.{Sent}
use Rattle.fol_core.specs.Word.{Word}
use Rattle.fol_core.specs.Statements.{statement}
use Rattle.fol_core.specs.Subst.{occurs}
use Rattle.deriv_laws.specs.declared.rule.Rule.{Rule}
use Rattle.deriv_laws.specs.Eigen.{AreWithout}
use Rattle.deriv_laws.specs.Derivable.{Der}
use Rattle.deriv_laws.proofs.Lists.{all_both, all_turn}
use Rattle.deriv_laws.proofs.Members.{contains_here, contains_there, all_each, all_given}
use Rattle.deriv_laws.proofs.Laws.{assume, weaken_by}
use Rattle.nested_proofs.specs.Items.{Opening, Assumes, Boxes, Items, box_of, assumption_of}
use Rattle.nested_proofs.specs.Scope.{Numbered, Subproof, prepend}
use Rattle.nested_proofs.specs.Placed.{Around, outside, after_step, inside, after_sub, last_of}
use Rattle.nested_proofs.specs.Fresh.{IsFresh, HasFreshBox}
use Rattle.nested_proofs.specs.Justified.{Consequence}

-- A closed subproof leads from some of what is open, in which its boxed constant doesn't occur, and its
-- own assumption, which is a statement, to its conclusion.
pub record Leads (gs : List Sent) (b : Subproof) : Type 0 where
  pub from : List Sent
  pub within : AllByRecursion (λ s. Contains gs s) from
  pub free : IfSome b.boxed (λ c. AreWithout c from)
  pub derived : IfSome b.conclusion (λ q. Der (prepend b.hypothesis from) q)
  pub stated : IfSome b.hypothesis (λ p. IsTrue (statement p))

-- The sentence may be cited under some number.
abbrev pub IsCitable : List Numbered → Sent → Type 0
IsCitable xs p = (k : ℕ) × Contains xs (record { number = k; sentence = p })

-- What may be cited is derivable, and each open assumption may be cited.
pub record Good (base : List Sent) (a : Around) : Type 0 where
  pub sentences : AllByRecursion (λ (x : Numbered). Der (a.assumed ++ base) x.sentence) a.scope.sentences
  pub subproofs : AllByRecursion (Leads (a.assumed ++ base)) a.scope.subproofs
  pub citable : AllByRecursion (IsCitable a.scope.sentences) a.assumed

pub good_outside : (base : List Sent) → Good base outside
good_outside base = record { sentences = tt; subproofs = tt; citable = tt }

-- more stands in scope
citable_more : (x : Numbered) (xs : List Numbered) (ps : List Sent) → AllByRecursion (IsCitable xs) ps → AllByRecursion (IsCitable (x ∷ xs)) ps
citable_more x xs ps h = all_turn (IsCitable xs) (IsCitable (x ∷ xs)) (λ p i. (i.0, contains_there x _ xs i.1)) ps h

pub good_step : (base : List Sent) (a : Around) (k : ℕ) (s : Sent) → Good base a → Der (a.assumed ++ base) s → Good base (after_step k s a)
good_step base a k s g h = record { sentences = (h, g.sentences); subproofs = g.subproofs; citable = citable_more (record { number = k; sentence = s }) a.scope.sentences a.assumed g.citable }

-- more is open
leads_more : (gs : List Sent) (p : Sent) (b : Subproof) → Leads gs b → Leads (p ∷ gs) b
leads_more gs p b l = record { from = l.from; within = all_turn (λ s. Contains gs s) (λ s. Contains (p ∷ gs) s) (λ s c. contains_there p s gs c) l.from l.within; free = l.free; derived = l.derived; stated = l.stated }

pub good_inside : (base : List Sent) (a : Around) (k : ℕ) (o : Opening) → Good base a → IfSome (assumption_of o) (λ p. IsTrue (statement p)) → Good base (inside k o a)
good_inside base a k (Boxes c) g h = record { sentences = g.sentences; subproofs = g.subproofs; citable = g.citable }
good_inside base a k (Assumes b p) g h =
    let gs : List Sent = a.assumed ++ base in
    record {
      sentences = (assume (p ∷ gs) p (contains_here p gs) h, all_turn (λ (x : Numbered). Der gs x.sentence) (λ (x : Numbered). Der (p ∷ gs) x.sentence) (λ x d. weaken_by gs p x.sentence d) a.scope.sentences g.sentences);
      subproofs = all_turn (Leads gs) (Leads (p ∷ gs)) (λ b l. leads_more gs p b l) a.scope.subproofs g.subproofs;
      citable = ((k, contains_here _ a.scope.sentences), citable_more (record { number = k; sentence = p }) a.scope.sentences a.assumed g.citable);
    }

-- What a proof stands on: its base has the premises, no constant that is in none of them, and what the consequence rules need.
pub record Base (con : Consequence) (premises base : List Sent) : Type 0 where
  pub has : (x : Sent) → Contains premises x → Contains base x
  pub free : (c : Word) → AreWithout c premises → AreWithout c base
  pub consequence : (hs : List Sent) (rule : Rule) (ps : List Sent) (s : Sent) → AllByRecursion (λ p. Der (hs ++ base) p) ps → IsTrue (statement s) → con rule ps s → Der (hs ++ base) s

-- A fresh constant occurs in nothing that is open: each open assumption may be cited.
fresh_free : (con : Consequence) (premises base : List Sent) (t : Base con premises base) (a : Around) (c : Word) → Good base a → IsFresh premises a c → AreWithout c (a.assumed ++ base)
fresh_free con premises base t a c g f =
    all_both (λ s. occurs c s ≡ false) a.assumed base
    (all_turn (IsCitable a.scope.sentences) (λ s. occurs c s ≡ false) (λ p i. all_each (λ (x : Numbered). occurs c x.sentence ≡ false) a.scope.sentences (record { number = i.0; sentence = p }) f.scope_free i.1) a.assumed g.citable)
    (t.free c f.premises_free)

box_free : (con : Consequence) (premises base : List Sent) (t : Base con premises base) (a : Around) (b : Option Word) → Good base a → HasFreshBox premises a b → IfSome b (λ c. AreWithout c (a.assumed ++ base))
box_free con premises base t a None g h = tt
box_free con premises base t a (Some c) g h = fresh_free con premises base t a c g h

pub good_after : (con : Consequence) (premises base : List Sent) (t : Base con premises base) (a : Around) (k : ℕ) (o : Opening) (body : Items) → Good base a → HasFreshBox premises a (box_of o) → IfSome (assumption_of o) (λ p. IsTrue (statement p)) →
    IfSome (last_of (assumption_of o) body) (λ q. Der (prepend (assumption_of o) (a.assumed ++ base)) q) → Good base (after_sub k o body a)
good_after con premises base t a k o body g f e h = record {
  sentences = g.sentences;
  subproofs = (record { from = a.assumed ++ base; within = all_given (λ s. Contains (a.assumed ++ base) s) (a.assumed ++ base) (λ s c. c); free = box_free con premises base t a (box_of o) g f; derived = h; stated = e }, g.subproofs);
  citable = g.citable;
}
