-- A sentence that follows by a rule from derivable sentences and from subproofs that lead to their conclusions is derivable.
use Rattle.std.proofs.Common.{◌≡◌, ◌+◌, List, [], ◌∷◌, ap, sym, ◌∙◌, subst, Some, IsTrue, false, Contains, inl, inr, rules}
use Rattle.std.specs.Prelude.{◌⊎◌, IfSome}
use Rattle.std.specs.List.{AllByRecursion}
use Rattle.std.proofs.lemmas.Bool.{and_parts}
use Rattle.fol_core.specs.declared.sent.Term.{Term}
use Rattle.fol_core.specs.declared.sent.Sent.{Sent, the_lemmas}
use Rattle.fol_core.specs.declared.sent.Sent.TheVariants.{Eq, Bottom, Not, And, If, Iff, All, Ex}
use Rattle.fol_core.specs.Word.{Word}
use Rattle.fol_core.specs.Statements.{statement, ground}
use Rattle.fol_core.specs.Subst.{occurs, subst_name}
use Rattle.fol_core.proofs.Forms.{conjunct_stated}
use Rattle.fol_core.proofs.Stating.{stated_eq, stated_not, stated_if}
use Rattle.deriv_laws.specs.declared.rule.Rule.{Rule}
use Rattle.deriv_laws.specs.declared.rule.Rule.TheVariants as r
use Rattle.deriv_laws.specs.Eigen.{AreWithout}
use Rattle.deriv_laws.specs.Derivable.{Der}
use Rattle.deriv_laws.proofs.Lists.{all_turn}
use Rattle.deriv_laws.proofs.Members.{contains_here, contains_there, contains_cases, all_each}
use Rattle.deriv_laws.proofs.Laws.{assume, weaken, and_intro, and_elim, der_stated}
use Rattle.deriv_laws.proofs.Connectives.{or_intro, or_elim, not_intro, not_elim, bot_intro, bot_elim, if_intro, if_elim, iff_intro, iff_elim, iff_back, cut}
use Rattle.deriv_laws.proofs.Quantifiers.{eq_intro, eq_elim, all_intro, ex_elim}
use Rattle.nested_proofs.specs.Scope.{Subproof, prepend}
use Rattle.nested_proofs.specs.Rules.{Follows, Goes, IffFrom, EqFrom, Generalizes, BoxStaysIn, StaysArbitrary}
use Rattle.nested_proofs.proofs.Standing.{Leads}
use Rattle.nested_proofs.proofs.InRow.{all_row, ex_row}

by_and_intro : (gs ps parts : List Sent) → AllByRecursion (λ p. Der gs p) ps → IsTrue (statement (And parts)) → AllByRecursion (λ p. Contains ps p) parts → Der gs (And parts)
by_and_intro gs ps parts h c i = and_intro gs parts (all_turn (λ p. Contains ps p) (λ p. Der gs p) (λ p d. all_each (λ p. Der gs p) ps p h d) parts i) c

by_and_elim : (gs parts : List Sent) (s : Sent) → Der gs (And parts) → IsTrue (statement s) →
    Contains parts s ⊎ ((some : List Sent) × (s ≡ And some) × AllByRecursion (λ q. Contains parts q) some) → Der gs s
by_and_elim gs parts s h c (inl i) = and_elim gs parts s h i c
by_and_elim gs parts s h c (inr w) =
    subst (λ x. Der gs x) (sym w.1) (and_intro gs w.0
    (all_turn (λ q. Contains parts q) (λ q. Der gs q) (λ q d. and_elim gs parts q h d (conjunct_stated parts q (der_stated gs (And parts) h) d)) w.0 w.2)
    (subst (λ x. IsTrue (statement x)) w.1 c))

by_if_elim : (gs : List Sent) (p q s : Sent) → Der gs p → Der gs q → (p ≡ If q s) ⊎ (q ≡ If p s) → Der gs s
by_if_elim gs p q s h k (inl e) = if_elim gs q s (subst (λ x. Der gs x) e h) k
by_if_elim gs p q s h k (inr e) = if_elim gs p s (subst (λ x. Der gs x) e k) h

-- A subproof that goes from p to q: q is derivable from p and what the subproof leads from.
gone : (gs : List Sent) (b : Subproof) (p q : Sent) (l : Leads gs b) → Goes b p q → Der (p ∷ l.from) q
gone gs b p q l g =
    let d : IfSome b.conclusion (λ x. Der (prepend (Some p) l.from) x) = subst (λ o. IfSome b.conclusion (λ x. Der (prepend o l.from) x)) g.from l.derived in
    subst (λ o. IfSome o (λ x. Der (p ∷ l.from) x)) g.to d

-- and so from p and what is open where the subproof is cited
goes_on : (gs : List Sent) (b : Subproof) (p q : Sent) → Leads gs b → Goes b p q → Der (p ∷ gs) q
goes_on gs b p q l g =
    weaken (p ∷ l.from) (p ∷ gs) q
    (λ x i. contains_cases (Contains (p ∷ gs) x) p x l.from (λ e. subst (λ z. Contains (p ∷ gs) z) e (contains_here p gs)) (λ j. contains_there p x gs (all_each (λ s. Contains gs s) l.from x l.within j)) i)
    (gone gs b p q l g)

outwards : (gs : List Sent) (b : Subproof) (l : Leads gs b) (s : Sent) → Der l.from s → Der gs s
outwards gs b l s h = weaken l.from gs s (λ x i. all_each (λ z. Contains gs z) l.from x l.within i) h

by_or_elim : (gs : List Sent) (bs : List Subproof) (some : List Sent) (s : Sent) → AllByRecursion (Leads gs) bs → AllByRecursion (λ q. (b : Subproof) × Contains bs b × Goes b q s) some → AllByRecursion (λ q. Der (q ∷ gs) s) some
by_or_elim gs bs [] s k w = tt
by_or_elim gs bs (q ∷ some) s k w = (goes_on gs w.0.0 q s (all_each (Leads gs) bs w.0.0 k w.0.1) w.0.2, by_or_elim gs bs some s k w.1)

by_bot_intro : (gs : List Sent) (p q : Sent) → Der gs p → Der gs q → (q ≡ Not p) ⊎ (p ≡ Not q) → Der gs Bottom
by_bot_intro gs p q h k (inl e) = bot_intro gs p h (subst (λ z. Der gs z) e k)
by_bot_intro gs p q h k (inr e) = bot_intro gs q k (subst (λ z. Der gs z) e h)

by_iff_intro : (gs : List Sent) (b d : Subproof) (p q : Sent) → Leads gs b → Leads gs d → (Goes b p q × Goes d q p) ⊎ (Goes b q p × Goes d p q) → Der gs (Iff p q)
by_iff_intro gs b d p q k l (inl w) = iff_intro gs p q (goes_on gs b p q k w.0) (goes_on gs d q p l w.1)
by_iff_intro gs b d p q k l (inr w) = iff_intro gs p q (goes_on gs d p q l w.1) (goes_on gs b q p k w.0)

one_side : (gs : List Sent) (e p s : Sent) → Der gs e → Der gs p → IffFrom e p s → Der gs s
one_side gs e p s h k (inl i) = iff_elim gs p s (subst (λ z. Der gs z) i h) k
one_side gs e p s h k (inr i) = iff_back gs s p (subst (λ z. Der gs z) i h) k

by_iff_elim : (gs : List Sent) (p q s : Sent) → Der gs p → Der gs q → IffFrom p q s ⊎ IffFrom q p s → Der gs s
by_iff_elim gs p q s h k (inl w) = one_side gs p q s h k w
by_iff_elim gs p q s h k (inr w) = one_side gs q p s k h w

by_eq_elim : (gs : List Sent) (p q s : Sent) → Der gs p → Der gs q → EqFrom p q s ⊎ EqFrom q p s → IsTrue (statement s) → Der gs s
by_eq_elim gs p q s h k (inl w) c = eq_elim gs w.a w.b q s (subst (λ z. Der gs z) w.equation h) k w.replaced c
by_eq_elim gs p q s h k (inr w) c = eq_elim gs w.a w.b p s (subst (λ z. Der gs z) w.equation k) h w.replaced c

-- where the box is c, c occurs in nothing that the subproof leads from
free_of : (b : Subproof) (c : Word) (gs : List Sent) → b.boxed ≡ Some c → IfSome b.boxed (λ w. AreWithout w gs) → AreWithout c gs
free_of b c gs e f = subst (λ o. IfSome o (λ w. AreWithout w gs)) e f

subst_of_if : (x c : Word) (p q : Sent) → subst_name x c (If p q) ≡ If (subst_name x c p) (subst_name x c q)
subst_of_if x c p q = search (rules, the_lemmas)

before_stated : (p q : Sent) → IsTrue (statement (If p q)) → IsTrue (statement p)
before_stated p q h = (and_parts _ _ (sym (stated_if p q []) ∙ h)).0

by_all_intro : (gs : List Sent) (b : Subproof) (c x : Word) (p : Sent) (l : Leads gs b) → b.boxed ≡ Some c → Generalizes b c x p → IsTrue (statement (All x p)) → occurs c (All x p) ≡ false → Der gs (All x p)
by_all_intro gs b c x p l e (inl w) k o =
    let d : IfSome b.conclusion (λ z. Der l.from z) = subst (λ i. IfSome b.conclusion (λ z. Der (prepend i l.from) z)) w.0 l.derived in
    let m : Der l.from (subst_name x c p) = subst (λ i. IfSome i (λ z. Der l.from z)) w.1 d in
    outwards gs b l (All x p) (all_intro l.from c x p (free_of b c l.from e l.free) m k o)
by_all_intro gs b c x p l e (inr w) k o =
    let q : Sent = subst_name x c w.0 in
    let t : Sent = subst_name x c w.1 in
    let i : subst_name x c p ≡ If q t = ap (subst_name x c) w.2 ∙ subst_of_if x c w.0 w.1 in
    let d : IsTrue (statement q) = subst (λ o. IfSome o (λ z. IsTrue (statement z))) w.3.from l.stated in
    let m : Der l.from (subst_name x c p) = subst (λ z. Der l.from z) (sym i) (if_intro l.from q t (gone gs b q t l w.3) d) in
    outwards gs b l (All x p) (all_intro l.from c x p (free_of b c l.from e l.free) m k o)

-- The existential sentence is derivable where it is cited, and perhaps not where the subproof was opened:
-- it is added to what the subproof leads from, the node is built there, and the sentence is cut.
by_ex_elim : (gs : List Sent) (b : Subproof) (c x : Word) (p s : Sent) (l : Leads gs b) → b.boxed ≡ Some c → Der gs (Ex x p) → Goes b (subst_name x c p) s →
    occurs c s ≡ false → occurs c (Ex x p) ≡ false → Der gs s
by_ex_elim gs b c x p s l e h g v o =
    let hs : List Sent = Ex x p ∷ l.from in
    let i : Der hs (Ex x p) = assume hs (Ex x p) (contains_here (Ex x p) l.from) (der_stated gs (Ex x p) h) in
    let j : Der (subst_name x c p ∷ hs) s = weaken (subst_name x c p ∷ l.from) (subst_name x c p ∷ hs) s (λ y w. contains_cases (Contains (subst_name x c p ∷ hs) y) (subst_name x c p) y l.from
    (λ q. subst (λ z. Contains (subst_name x c p ∷ hs) z) q (contains_here (subst_name x c p) hs)) (λ q. contains_there (subst_name x c p) y hs (contains_there (Ex x p) y l.from q)) w) (gone gs b (subst_name x c p) s l g) in
    let d : Der hs s = ex_elim hs c x p s (o, free_of b c l.from e l.free) i j o v in
    let m : Der (Ex x p ∷ gs) s = weaken hs (Ex x p ∷ gs) s (λ y w. contains_cases (Contains (Ex x p ∷ gs) y) (Ex x p) y l.from
    (λ q. subst (λ z. Contains (Ex x p ∷ gs) z) q (contains_here (Ex x p) gs)) (λ q. contains_there (Ex x p) y gs (all_each (λ z. Contains gs z) l.from y l.within q)) w) d in
    cut gs (Ex x p) s h m

out_of : (b : Subproof) (c : Word) (ss : List Sent) → b.boxed ≡ Some c → BoxStaysIn b ss → AllByRecursion (λ s. occurs c s ≡ false) ss
out_of b c ss e f = subst (λ o. IfSome o (λ w. AllByRecursion (λ s. occurs w s ≡ false) ss)) e f

denied_stated : (p : Sent) → IsTrue (statement (Not p)) → IsTrue (statement p)
denied_stated p h = sym (stated_not p []) ∙ h

equal_ground : (a : Term) → IsTrue (statement (Eq a a)) → IsTrue (ground a)
equal_ground a h = (and_parts _ _ (sym (stated_eq a a []) ∙ h)).0

-- by one rule, from what is cited
pub by_rule : (gs : List Sent) (rule : Rule) (ps : List Sent) (bs : List Subproof) (s : Sent) → AllByRecursion (λ p. Der gs p) ps → AllByRecursion (Leads gs) bs → IsTrue (statement s) →
    Follows rule ps bs s → StaysArbitrary rule ps bs s → Der gs s
by_rule gs r.Reit (p ∷ []) [] s h k c f v = subst (λ x. Der gs x) f h.0
by_rule gs r.AndIntro ps [] s h k c f v = subst (λ x. Der gs x) (sym f.1) (by_and_intro gs ps f.0 h (subst (λ x. IsTrue (statement x)) f.1 c) f.2)
by_rule gs r.AndElim (p ∷ []) [] s h k c f v = by_and_elim gs f.0 s (subst (λ x. Der gs x) f.1 h.0) c f.2
by_rule gs r.OrIntro (p ∷ []) [] s h k c f v = subst (λ x. Der gs x) (sym f.1) (or_intro gs f.0 p h.0 f.2 (subst (λ x. IsTrue (statement x)) f.1 c))
by_rule gs r.OrElim (p ∷ []) bs s h k c f v = or_elim gs f.0 s (subst (λ x. Der gs x) f.1 h.0) (by_or_elim gs bs f.0 s k f.2) c
by_rule gs r.NotIntro [] (b ∷ []) s h k c f v = subst (λ x. Der gs x) (sym f.1) (not_intro gs f.0 (goes_on gs b f.0 Bottom k.0 f.2) (denied_stated f.0 (subst (λ x. IsTrue (statement x)) f.1 c)))
by_rule gs r.NotElim (p ∷ []) [] s h k c f v = not_elim gs s (subst (λ x. Der gs x) f h.0)
by_rule gs r.BotIntro (p ∷ q ∷ []) [] s h k c f v = subst (λ x. Der gs x) (sym f.0) (by_bot_intro gs p q h.0 h.1.0 f.1)
by_rule gs r.BotElim (p ∷ []) [] s h k c f v = bot_elim gs s (subst (λ x. Der gs x) f h.0) c
by_rule gs r.IfIntro [] (b ∷ []) s h k c f v = subst (λ x. Der gs x) (sym f.2) (if_intro gs f.0 f.1 (goes_on gs b f.0 f.1 k.0 f.3) (before_stated f.0 f.1 (subst (λ x. IsTrue (statement x)) f.2 c)))
by_rule gs r.IfElim (p ∷ q ∷ []) [] s h k c f v = by_if_elim gs p q s h.0 h.1.0 f
by_rule gs r.IffIntro [] (b ∷ d ∷ []) s h k c f v = subst (λ x. Der gs x) (sym f.2) (by_iff_intro gs b d f.0 f.1 k.0 k.1.0 f.3)
by_rule gs r.IffElim (p ∷ q ∷ []) [] s h k c f v = by_iff_elim gs p q s h.0 h.1.0 f
by_rule gs r.EqIntro [] [] s h k c f v = subst (λ x. Der gs x) (sym f.1) (eq_intro gs f.0 (equal_ground f.0 (subst (λ x. IsTrue (statement x)) f.1 c)))
by_rule gs r.EqElim (p ∷ q ∷ []) [] s h k c f v = by_eq_elim gs p q s h.0 h.1.0 f c
by_rule gs r.AllIntro [] (b ∷ []) s h k c f v =
    subst (λ x. Der gs x) (sym f.4) (by_all_intro gs b f.0 f.1 f.2 k.0 f.3 f.5 (subst (λ x. IsTrue (statement x)) f.4 c) (subst (λ x. occurs f.0 x ≡ false) f.4 (out_of b f.0 (s ∷ []) f.3 v).0))
by_rule gs r.AllElim (p ∷ []) [] s h k c f v = all_row (f.0 + 1) gs p s h.0 f.2
by_rule gs r.ExIntro (p ∷ []) [] s h k c f v = ex_row (f.0 + 1) gs s p c h.0 f.2
by_rule gs r.ExElim (p ∷ []) (b ∷ []) s h k c f v =
    let o : AllByRecursion (λ x. occurs f.0 x ≡ false) (s ∷ p ∷ []) = out_of b f.0 (s ∷ p ∷ []) f.3 v in
    by_ex_elim gs b f.0 f.1 f.2 s k.0 f.3 (subst (λ x. Der gs x) f.4 h.0) f.5 o.0 (subst (λ x. occurs f.0 x ≡ false) f.4 o.1.0)
by_rule gs _ _ _ s h k c f v = absurd f
