-- The rules of the tableau over lists of sentences: where each branch that an application makes is refuted, so is the branch before it.
use Rattle.std.proofs.Common.{◌≡◌, List, [], ◌∷◌, ◌++◌, map, refl, sym, ◌∙◌, false, IsTrue, inl, inr, ◌⊎◌}
use Rattle.std.specs.List.{AllByRecursion}
use Rattle.std.proofs.lemmas.Bool.{and_parts}
use Rattle.fol_core.specs.declared.sent.Term.{Term}
use Rattle.fol_core.specs.declared.sent.Sent.{Sent}
use Rattle.fol_core.specs.declared.sent.Sent.TheVariants.{Eq, Bottom, Not, And, Or, If, Iff, All, Ex}
use Rattle.fol_core.specs.Word.{Word, is_ident}
use Rattle.fol_core.specs.Subst.{occurs, subst_name, subst_closed_term}
use Rattle.fol_core.specs.Statements.{statement, ground, AreStatements}
use Rattle.fol_core.specs.Alike.{repl}
use Rattle.fol_core.proofs.Forms.{conjunct_stated, disjunct_stated}
use Rattle.fol_core.proofs.Stating.{stated_not, stated_if, stated_iff, stated_eq, stated_bottom}
use Rattle.fol_core.proofs.Instances.{all_instance_by_name, ex_instance}
use Rattle.fol_core.proofs.Occurring.{occurs_not, occurs_bottom}
use Rattle.deriv_laws.specs.Eigen.{AreWithout}
use Rattle.deriv_laws.specs.Derivable.{Der}
use Rattle.deriv_laws.proofs.Laws as d
use Rattle.deriv_laws.proofs.Laws.{weaken_by, der_stated, and_intro, and_elim}
use Rattle.deriv_laws.proofs.Connectives.{or_intro, or_elim, not_intro, not_elim, bot_intro, bot_elim, if_intro, if_elim, iff_intro, iff_elim, iff_back, cut, cuts}
use Rattle.deriv_laws.proofs.Quantifiers.{eq_intro, eq_elim, all_intro, all_elim, ex_intro, ex_elim}
use Rattle.tableau_laws.proofs.Lists.{Elem, to_elem, to_contains, all_at, all_each}

pub assume : (gs : List Sent) (s : Sent) → Elem gs s → IsTrue (statement s) → Der gs s
assume gs s h c = d.assume gs s (to_contains gs s h) c

pub weaken : (gs hs : List Sent) (s : Sent) → ((x : Sent) → Elem gs x → Elem hs x) → Der gs s → Der hs s
weaken gs hs s f h = d.weaken gs hs s (λ x c. to_contains hs x (f x (to_elem gs x c))) h

pub given : (gs : List Sent) (s : Sent) → AreStatements gs → Elem gs s → Der gs s
given gs s c h = assume gs s h (all_at (λ z. IsTrue (statement z)) gs s c h)

-- indirect proof
pub reductio : (gs : List Sent) (p : Sent) → IsTrue (statement p) → Der (Not p ∷ gs) Bottom → Der gs p
reductio gs p c h = not_elim gs p (not_intro gs (Not p) h (stated_not p [] ∙ c))

-- What closes a branch.

pub closes_pair : (gs : List Sent) (p : Sent) → AreStatements gs → Elem gs p → Elem gs (Not p) → Der gs Bottom
closes_pair gs p c h k = bot_intro gs p (given gs p c h) (given gs (Not p) c k)

pub closes_bottom : (gs : List Sent) → AreStatements gs → Elem gs Bottom → Der gs Bottom
closes_bottom gs c h = given gs Bottom c h

stated_inside : (gs : List Sent) (p : Sent) → AreStatements gs → Elem gs (Not p) → IsTrue (statement p)
stated_inside gs p c h = sym (stated_not p []) ∙ all_at (λ z. IsTrue (statement z)) gs (Not p) c h

pub closes_identity : (gs : List Sent) (t : Term) → AreStatements gs → Elem gs (Not (Eq t t)) → Der gs Bottom
closes_identity gs t c h =
    bot_intro gs (Eq t t) (eq_intro gs t (and_parts (ground t) (ground t) (sym (stated_eq t t []) ∙ stated_inside gs (Eq t t) c h)).0) (given gs (Not (Eq t t)) c h)

-- One branch.

pub not_not : (gs : List Sent) (p : Sent) → AreStatements gs → Elem gs (Not (Not p)) → Der (p ∷ gs) Bottom → Der gs Bottom
not_not gs p c h d = cut gs p Bottom (not_elim gs p (given gs (Not (Not p)) c h)) d

pub each_conjunct : (ps : List Sent) → IsTrue (statement (And ps)) → AreStatements ps
each_conjunct ps o = all_each (λ p. IsTrue (statement p)) ps (λ p e. conjunct_stated ps p o (to_contains ps p e))

pub each_disjunct : (ps : List Sent) → IsTrue (statement (Or ps)) → AreStatements ps
each_disjunct ps o = all_each (λ p. IsTrue (statement p)) ps (λ p e. disjunct_stated ps p o (to_contains ps p e))

pub held_and : (gs ps : List Sent) → AreStatements gs → Elem gs (And ps) → Der (ps ++ gs) Bottom → Der gs Bottom
held_and gs ps c h d =
    let o : IsTrue (statement (And ps)) = all_at (λ z. IsTrue (statement z)) gs (And ps) c h in
    cuts gs ps Bottom (all_each (λ p. Der gs p) ps (λ p e. and_elim gs ps p (given gs (And ps) c h) (to_contains ps p e) (conjunct_stated ps p o (to_contains ps p e)))) d

denied_part : (gs ps : List Sent) (p : Sent) → AreStatements gs → Elem gs (Not (Or ps)) → Elem ps p → Der gs (Not p)
denied_part gs ps p c h e =
    let o : IsTrue (statement (Or ps)) = stated_inside gs (Or ps) c h in
    let k : IsTrue (statement p) = disjunct_stated ps p o (to_contains ps p e) in
    not_intro gs p (bot_intro (p ∷ gs) (Or ps) (or_intro (p ∷ gs) ps p (assume (p ∷ gs) p (inl refl) k) (to_contains ps p e) o) (weaken_by gs p (Not (Or ps)) (given gs (Not (Or ps)) c h))) k

each_denied : (gs ps : List Sent) → ((p : Sent) → Elem ps p → Der gs (Not p)) → AllByRecursion (λ q. Der gs q) (map Not ps)
each_denied gs [] f = tt
each_denied gs (p ∷ ps) f = (f p (inl refl), each_denied gs ps (λ q e. f q (inr e)))

pub denied_or : (gs ps : List Sent) → AreStatements gs → Elem gs (Not (Or ps)) → Der (map Not ps ++ gs) Bottom → Der gs Bottom
denied_or gs ps c h d = cuts gs (map Not ps) Bottom (each_denied gs ps (λ p e. denied_part gs ps p c h e)) d

pub denied_if : (gs : List Sent) (p q : Sent) → AreStatements gs → Elem gs (Not (If p q)) → Der (p ∷ Not q ∷ gs) Bottom → Der gs Bottom
denied_if gs p q c h d =
    let n : Der gs (Not (If p q)) = given gs (Not (If p q)) c h in
    let k = and_parts _ _ (sym (stated_if p q []) ∙ stated_inside gs (If p q) c h) in
    let kn : IsTrue (statement (Not p)) = stated_not p [] ∙ k.0 in
    let here : Der (p ∷ Not p ∷ gs) q = bot_elim (p ∷ Not p ∷ gs) q (bot_intro (p ∷ Not p ∷ gs) p (assume (p ∷ Not p ∷ gs) p (inl refl) k.0) (assume (p ∷ Not p ∷ gs) (Not p) (inr (inl refl)) kn)) k.1 in
    let dp : Der gs p = reductio gs p k.0 (bot_intro (Not p ∷ gs) (If p q) (if_intro (Not p ∷ gs) p q here k.0) (weaken_by gs (Not p) (Not (If p q)) n)) in
    let there : Der (p ∷ q ∷ gs) q = assume (p ∷ q ∷ gs) q (inr (inl refl)) k.1 in
    let dq : Der gs (Not q) = not_intro gs q (bot_intro (q ∷ gs) (If p q) (if_intro (q ∷ gs) p q there k.0) (weaken_by gs q (Not (If p q)) n)) k.1 in
    cuts gs (p ∷ Not q ∷ []) Bottom (dp, (dq, tt)) d

-- Equations: a literal, or its denial, with the one term for the other.

pub replaced : (gs : List Sent) (a b : Term) (p s : Sent) → AreStatements gs → Elem gs (Eq a b) → Elem gs p → IsTrue (statement s) → IsTrue (repl a b p s) ⊎ IsTrue (repl b a p s) → Der (s ∷ gs) Bottom → Der gs Bottom
replaced gs a b p s c e h k w d = cut gs s Bottom (eq_elim gs a b p s (given gs (Eq a b) c e) (given gs p c h) w k) d

-- Witnesses.

pub witness : (gs : List Sent) (x : Word) (p : Sent) (k : Word) → AreStatements gs → Elem gs (Ex x p) → AreWithout k gs → Der (subst_name x k p ∷ gs) Bottom → Der gs Bottom
witness gs x p k c h w d = ex_elim gs k x p Bottom w (given gs (Ex x p) c h) d (all_at (λ s. occurs k s ≡ false) gs (Ex x p) w h) (occurs_bottom k)

pub counterexample : (gs : List Sent) (x : Word) (p : Sent) (k : Word) → IsTrue (is_ident k) → AreStatements gs → Elem gs (Not (All x p)) → AreWithout k gs → Der (Not (subst_name x k p) ∷ gs) Bottom → Der gs Bottom
counterexample gs x p k i c h w d =
    let o : IsTrue (statement (All x p)) = stated_inside gs (All x p) c h in
    let f : occurs k (All x p) ≡ false = sym (occurs_not k (All x p)) ∙ all_at (λ s. occurs k s ≡ false) gs (Not (All x p)) w h in
    bot_intro gs (All x p) (all_intro gs k x p w (reductio gs (subst_name x k p) (all_instance_by_name x k p i o) d) o f) (given gs (Not (All x p)) c h)

-- Several branches.

pub denied_and : (gs ps : List Sent) → AreStatements gs → Elem gs (Not (And ps)) → AllByRecursion (λ p. Der (Not p ∷ gs) Bottom) ps → Der gs Bottom
denied_and gs ps c h d =
    let o : IsTrue (statement (And ps)) = stated_inside gs (And ps) c h in
    bot_intro gs (And ps)
    (and_intro gs ps (all_each (λ p. Der gs p) ps (λ p e. reductio gs p (conjunct_stated ps p o (to_contains ps p e)) (all_at (λ q. Der (Not q ∷ gs) Bottom) ps p d e))) o)
    (given gs (Not (And ps)) c h)

pub held_or : (gs ps : List Sent) → AreStatements gs → Elem gs (Or ps) → AllByRecursion (λ p. Der (p ∷ gs) Bottom) ps → Der gs Bottom
held_or gs ps c h d = or_elim gs ps Bottom (given gs (Or ps) c h) d (stated_bottom [])

pub held_if : (gs : List Sent) (p q : Sent) → AreStatements gs → Elem gs (If p q) → Der (Not p ∷ gs) Bottom → Der (q ∷ gs) Bottom → Der gs Bottom
held_if gs p q c h d e =
    let i : Der gs (If p q) = given gs (If p q) c h in
    let k = and_parts _ _ (sym (stated_if p q []) ∙ der_stated gs (If p q) i) in
    cut gs q Bottom (if_elim gs p q i (reductio gs p k.0 d)) e

-- either a sentence or its denial
either_way : (gs : List Sent) (p : Sent) → IsTrue (statement p) → Der (p ∷ gs) Bottom → Der (Not p ∷ gs) Bottom → Der gs Bottom
either_way gs p k d e = bot_intro gs p (reductio gs p k e) (not_intro gs p d k)

swap : (a b : Sent) (hs : List Sent) (s : Sent) → Elem (a ∷ b ∷ hs) s → Elem (b ∷ a ∷ hs) s
swap a b hs s (inl e) = inr (inl e)
swap a b hs s (inr (inl e)) = inl e
swap a b hs s (inr (inr h)) = inr (inr h)

pub held_iff : (gs : List Sent) (p q : Sent) → AreStatements gs → Elem gs (Iff p q) → Der (p ∷ q ∷ gs) Bottom → Der (Not p ∷ Not q ∷ gs) Bottom → Der gs Bottom
held_iff gs p q c h d e =
    let i : Der gs (Iff p q) = given gs (Iff p q) c h in
    let k = and_parts _ _ (sym (stated_iff p q []) ∙ der_stated gs (Iff p q) i) in
    let g1 : List Sent = p ∷ gs in
    let g2 : List Sent = Not p ∷ gs in
    let g3 : List Sent = q ∷ g2 in
    let left : Der g1 Bottom = cut g1 q Bottom (iff_elim g1 p q (weaken_by gs p (Iff p q) i) (assume g1 p (inl refl) k.0)) (weaken (p ∷ q ∷ gs) (q ∷ g1) Bottom (λ s. swap p q gs s) d) in
    let no_q : Der g2 (Not q) = not_intro g2 q (bot_intro g3 p (iff_back g3 p q (weaken_by g2 q (Iff p q) (weaken_by gs (Not p) (Iff p q) i)) (assume g3 q (inl refl) k.1)) (assume g3 (Not p) (inr (inl refl)) (stated_not p [] ∙ k.0))) k.1 in
    let right : Der g2 Bottom = cut g2 (Not q) Bottom no_q (weaken (Not p ∷ Not q ∷ gs) (Not q ∷ g2) Bottom (λ s. swap (Not p) (Not q) gs s) e) in
    either_way gs p k.0 left right

pub denied_iff : (gs : List Sent) (p q : Sent) → AreStatements gs → Elem gs (Not (Iff p q)) → Der (p ∷ Not q ∷ gs) Bottom → Der (Not p ∷ q ∷ gs) Bottom → Der gs Bottom
denied_iff gs p q c h d e =
    let k = and_parts _ _ (sym (stated_iff p q []) ∙ stated_inside gs (Iff p q) c h) in
    let there : Der (p ∷ gs) q = reductio (p ∷ gs) q k.1 (weaken (p ∷ Not q ∷ gs) (Not q ∷ p ∷ gs) Bottom (λ s. swap p (Not q) gs s) d) in
    let back : Der (q ∷ gs) p = reductio (q ∷ gs) p k.0 e in
    bot_intro gs (Iff p q) (iff_intro gs p q there back) (given gs (Not (Iff p q)) c h)

-- Universals.

pub held_all : (gs : List Sent) (x : Word) (p : Sent) (t : Term) → IsTrue (ground t) → AreStatements gs → Elem gs (All x p) → Der (subst_closed_term x t p ∷ gs) Bottom → Der gs Bottom
held_all gs x p t k c h d = cut gs (subst_closed_term x t p) Bottom (all_elim gs x t p k (given gs (All x p) c h)) d

pub denied_ex : (gs : List Sent) (x : Word) (p : Sent) (t : Term) → IsTrue (ground t) → AreStatements gs → Elem gs (Not (Ex x p)) → Der (Not (subst_closed_term x t p) ∷ gs) Bottom → Der gs Bottom
denied_ex gs x p t k c h d =
    let o : IsTrue (statement (Ex x p)) = stated_inside gs (Ex x p) c h in
    let i : IsTrue (statement (subst_closed_term x t p)) = ex_instance x t p k o in
    bot_intro gs (Ex x p) (ex_intro gs x t p k (reductio gs (subst_closed_term x t p) i d) o) (given gs (Not (Ex x p)) c h)
