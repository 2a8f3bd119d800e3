-- What the rules of this crate cite, and what follows from it.
use Rattle.std.proofs.Common.{◌≡◌, ◌<◌, Bool, true, false, List, [], ◌∷◌, length, refl, sym, ap, subst, ◌∙◌, cond, Option, Some, None, IsTrue, ◌↔◌, arith, Bor}
use Rattle.std.specs.Prelude.{not, ◌||◌, IfSome, MatchOption}
use Rattle.std.specs.Option.{option_copied}
use Rattle.std.specs.List.{AllByRecursion}
use Rattle.fol_core.specs.declared.sent.Sent.{Sent}
use Rattle.fol_core.specs.Word.{Word}
use Rattle.fol_core.specs.Subst.{occurs}
use Rattle.deriv_laws.specs.declared.rule.Rule.{Rule}
use Rattle.deriv_laws.specs.declared.rule.Rule.TheVariants as r
use Rattle.deriv_laws.specs.declared.line.Cite.{Cite}
use Rattle.deriv_laws.specs.declared.line.FlatLine.{FlatLine}
use Rattle.nested_proofs.specs.Scope.{Subproof, prepend}
use Rattle.nested_proofs.specs.Rules.{Follows, StaysArbitrary}
use Rattle.nested_proofs.specs.StaysAt.{OneBoxes}
use Rattle.nested_proofs.specs.CiteTests.{lines_cited, subproofs_cited, counts_fit, is_inferred}
use Rattle.nested_proofs.specs.ReadOff.{stated_at, subproof_between, sentences_read, subproofs_read}
use Rattle.nested_proofs.proofs.CiteCounts.{exactly}
use Rattle.nested_proofs.proofs.ReadCites.{no_subproofs}
use Rattle.nested_proofs.proofs.ReadCites.{two_read}
use Rattle.rules_quant.specs.Quantified.{is_quantified}
use Rattle.rules_quant.specs.Shown.{IsGeneralAt, FollowsFrom}
use Rattle.rules_quant.specs.Spoilt.{boxed_by, occurs_in, box_in}

pub no_cites : (cs : List Cite) → counts_fit r.EqIntro cs ≡ true → (lines_cited cs ≡ 0) × (subproofs_cited cs ≡ 0)
no_cites cs h = exactly (lines_cited cs) (subproofs_cited cs) 0 0 h

pub two_lines : (cs : List Cite) → counts_fit r.EqElim cs ≡ true → (lines_cited cs ≡ 2) × (subproofs_cited cs ≡ 0)
two_lines cs h = exactly (lines_cited cs) (subproofs_cited cs) 2 0 h

pub one_subproof : (cs : List Cite) → counts_fit r.AllIntro cs ≡ true → (lines_cited cs ≡ 0) × (subproofs_cited cs ≡ 1)
one_subproof cs h = exactly (lines_cited cs) (subproofs_cited cs) 0 1 h

pub one_universal : (cs : List Cite) → counts_fit r.AllElim cs ≡ true → (lines_cited cs ≡ 1) × (subproofs_cited cs ≡ 0)
one_universal cs h = exactly (lines_cited cs) (subproofs_cited cs) 1 0 h

pub one_instance : (cs : List Cite) → counts_fit r.ExIntro cs ≡ true → (lines_cited cs ≡ 1) × (subproofs_cited cs ≡ 0)
one_instance cs h = exactly (lines_cited cs) (subproofs_cited cs) 1 0 h

pub one_of_each : (cs : List Cite) → counts_fit r.ExElim cs ≡ true → (lines_cited cs ≡ 1) × (subproofs_cited cs ≡ 1)
one_of_each cs h = exactly (lines_cited cs) (subproofs_cited cs) 1 1 h

-- the rules of this crate are rules of inferred lines
pub inferred : (rule : Rule) → is_quantified rule ≡ true → is_inferred rule ≡ true
inferred r.Premise e = cc
inferred r.Assume e = cc
inferred r.BoxOnly e = cc
inferred rule e = refl

-- the elimination of identity gives nothing from fewer than two sentences
few : (ps : List Sent) (s : Sent) → length ps < 2 → Follows r.EqElim ps [] s → ⊥
few [] s h f = f
few (p ∷ []) s h f = f
few (p ∷ q ∷ ps) s h f = omega (arith, h)

pub one_missing : (ls : List FlatLine) (cs : List Cite) (one other : Cite) (s : Sent) → cs ≡ one ∷ other ∷ [] → subproofs_cited cs ≡ 0 → stated_at ls one.first ≡ None → Follows r.EqElim (sentences_read ls cs) (subproofs_read ls cs) s → ⊥
one_missing ls cs one other s e n m f =
    few (prepend None (prepend (stated_at ls other.first) [])) s (short (stated_at ls other.first))
    (subst (λ ps. Follows r.EqElim ps [] s) (two_read ls cs one other e n ∙ ap (λ o. prepend o (prepend (stated_at ls other.first) [])) m)
    (subst (λ bs. Follows r.EqElim (sentences_read ls cs) bs s) (no_subproofs ls cs n) f))
  where
    short : (o : Option Sent) → length (prepend None (prepend o [])) < 2
    short None = omega arith
    short (Some x) = omega arith

-- the subproof alone is cited
sub_alone : (d : Cite) → subproofs_cited (d ∷ []) ≡ 1 → d.sub ≡ true
sub_alone d = go d.sub
  where
    go : (b : Bool) → length (cond b (d ∷ []) []) ≡ 1 → b ≡ true
    go true e = refl
    go false e = absurd (omega (arith, e))

alone_read : (ls : List FlatLine) (cs : List Cite) (d : Cite) → cs ≡ d ∷ [] → subproofs_cited cs ≡ 1 → (sentences_read ls cs ≡ []) × (subproofs_read ls cs ≡ prepend (subproof_between ls d.first d.last) [])
alone_read ls cs d e n = (ap (sentences_read ls) e ∙ (go d.sub sub).0, ap (subproofs_read ls) e ∙ (go d.sub sub).1)
  where
    sub : d.sub ≡ true
    sub = sub_alone d (subst (λ xs. subproofs_cited xs ≡ 1) e n)

    go : (b : Bool) → b ≡ true → (cond b [] (prepend (stated_at ls d.first) []) ≡ []) × (cond b (prepend (subproof_between ls d.first d.last) []) [] ≡ prepend (subproof_between ls d.first d.last) [])
    go true q = (refl, refl)
    go false q = cc

pub general_cited : (ls : List FlatLine) (cs : List Cite) (d : Cite) (s : Sent) (b : Bool) → cs ≡ d ∷ [] → subproofs_cited cs ≡ 1 → IsTrue b ↔ IsGeneralAt ls d s → IsTrue b ↔ Follows r.AllIntro (sentences_read ls cs) (subproofs_read ls cs) s
general_cited ls cs d s b e n h =
    let w = alone_read ls cs d e n in
    subst (λ ps. IsTrue b ↔ Follows r.AllIntro ps (subproofs_read ls cs) s) (sym w.0) (subst (λ bs. IsTrue b ↔ Follows r.AllIntro [] bs s) (sym w.1) (go (subproof_between ls d.first d.last) h))
  where
    go : (o : Option Subproof) → IsTrue b ↔ ((x : Subproof) × (o ≡ Some x) × Follows r.AllIntro [] (x ∷ []) s) → IsTrue b ↔ Follows r.AllIntro [] (prepend o []) s
    go None h = (λ i. absurd (let q = (h.0 i).1 in cc), λ f. absurd f)
    go (Some x) h = (λ i. let w = h.0 i in subst (λ y. Follows r.AllIntro [] (y ∷ []) s) (let q : Some w.0 ≡ Some x = sym w.1 in let p : w.0 ≡ x = cc in p) w.2, λ f. h.1 (x, refl, f))

-- a line and a subproof are cited, in either order
each_order : (one other : Cite) → lines_cited (one ∷ other ∷ []) ≡ 1 → subproofs_cited (one ∷ other ∷ []) ≡ 1 → other.sub ≡ not one.sub
each_order one other = go one.sub other.sub
  where
    go : (a b : Bool) → length (cond (not a) (one ∷ cond (not b) (other ∷ []) []) (cond (not b) (other ∷ []) [])) ≡ 1 → length (cond a (one ∷ cond b (other ∷ []) []) (cond b (other ∷ []) [])) ≡ 1 → b ≡ not a
    go true true e f = absurd (omega (arith, e))
    go true false e f = refl
    go false true e f = refl
    go false false e f = absurd (omega (arith, f))

-- what is read where the subproof stands first
pub sub_first : (ls : List FlatLine) (cs : List Cite) (one other : Cite) → cs ≡ one ∷ other ∷ [] → lines_cited cs ≡ 1 → subproofs_cited cs ≡ 1 → one.sub ≡ true →
    (sentences_read ls cs ≡ prepend (stated_at ls other.first) []) × (subproofs_read ls cs ≡ prepend (subproof_between ls one.first one.last) [])
sub_first ls cs one other e m n t = (ap (sentences_read ls) e ∙ (go one.sub other.sub t last).0, ap (subproofs_read ls) e ∙ (go one.sub other.sub t last).1)
  where
    last : other.sub ≡ false
    last = each_order one other (subst (λ xs. lines_cited xs ≡ 1) e m) (subst (λ xs. subproofs_cited xs ≡ 1) e n) ∙ ap not t

    go : (u v : Bool) → u ≡ true → v ≡ false →
        (cond u (cond v [] (prepend (stated_at ls other.first) [])) (prepend (stated_at ls one.first) (cond v [] (prepend (stated_at ls other.first) []))) ≡ prepend (stated_at ls other.first) [])
        × (cond u (prepend (subproof_between ls one.first one.last) (cond v (prepend (subproof_between ls other.first other.last) []) [])) (cond v (prepend (subproof_between ls other.first other.last) []) []) ≡ prepend (subproof_between ls one.first one.last) [])
    go true false p q = (refl, refl)
    go true true p q = cc
    go false v p q = cc

-- and where the line does
pub line_first : (ls : List FlatLine) (cs : List Cite) (one other : Cite) → cs ≡ one ∷ other ∷ [] → lines_cited cs ≡ 1 → subproofs_cited cs ≡ 1 → one.sub ≡ false →
    (sentences_read ls cs ≡ prepend (stated_at ls one.first) []) × (subproofs_read ls cs ≡ prepend (subproof_between ls other.first other.last) [])
line_first ls cs one other e m n t = (ap (sentences_read ls) e ∙ (go one.sub other.sub t last).0, ap (subproofs_read ls) e ∙ (go one.sub other.sub t last).1)
  where
    last : other.sub ≡ true
    last = each_order one other (subst (λ xs. lines_cited xs ≡ 1) e m) (subst (λ xs. subproofs_cited xs ≡ 1) e n) ∙ ap not t

    go : (u v : Bool) → u ≡ false → v ≡ true →
        (cond u (cond v [] (prepend (stated_at ls other.first) [])) (prepend (stated_at ls one.first) (cond v [] (prepend (stated_at ls other.first) []))) ≡ prepend (stated_at ls one.first) [])
        × (cond u (prepend (subproof_between ls one.first one.last) (cond v (prepend (subproof_between ls other.first other.last) []) [])) (cond v (prepend (subproof_between ls other.first other.last) []) []) ≡ prepend (subproof_between ls other.first other.last) [])
    go false true p q = (refl, refl)
    go false false p q = cc
    go true v p q = cc

pub from_each : (o : Option Sent) (n : Option Subproof) (ps : List Sent) (bs : List Subproof) (s : Sent) (b : Bool) → ps ≡ prepend o [] → bs ≡ prepend n [] → IsTrue b ↔ FollowsFrom o n s → IsTrue b ↔ Follows r.ExElim ps bs s
from_each o n ps bs s b e f h = subst (λ xs. IsTrue b ↔ Follows r.ExElim xs bs s) (sym e) (subst (λ ys. IsTrue b ↔ Follows r.ExElim (prepend o []) ys s) (sym f) (go o n h))
  where
    go : (o : Option Sent) (n : Option Subproof) → IsTrue b ↔ FollowsFrom o n s → IsTrue b ↔ Follows r.ExElim (prepend o []) (prepend n []) s
    go (Some p) (Some x) h = (
      λ i. let w = h.0 i in
          let a : w.0 ≡ p = (let q : Some w.0 ≡ Some p = sym w.2 in cc) in
          let c : w.1 ≡ x = (let q : Some w.1 ≡ Some x = sym w.3 in cc) in
          subst (λ y. Follows r.ExElim (p ∷ []) (y ∷ []) s) c (subst (λ y. Follows r.ExElim (y ∷ []) (w.1 ∷ []) s) a w.4),
      λ g. h.1 (p, x, refl, refl, g),
    )
    go None (Some x) h = (λ i. absurd (let q = (h.0 i).2 in cc), λ g. absurd g)
    go None None h = (λ i. absurd (let q = (h.0 i).2 in cc), λ g. absurd g)
    go (Some p) None h = (λ i. absurd (let q = (h.0 i).3 in cc), λ g. absurd g)

-- The constant that isn't arbitrary, where there is one.
abbrev pub Spoils : Option (Bor Word) → Type 0 → List Subproof → Type 0
Spoils o S bs = MatchOption o S (λ c. (S → ⊥) × OneBoxes bs c.now)

spoils_box : (o : Option (Bor Word)) (x : Subproof) (w : Option Word) (s : Sent) (p : Option Sent) → x.boxed ≡ w → option_copied o ≡ box_in w s p →
    Spoils o (IfSome w (λ c. AllByRecursion (λ t. occurs c t ≡ false) (s ∷ prepend p []))) (x ∷ [])
spoils_box None x None s p e g = tt
spoils_box (Some a) x None s p e g = cc
spoils_box o x (Some c) s p e g = go (occurs c s) refl p (occurs_in c p) refl o g
  where
    go : (a : Bool) → occurs c s ≡ a → (p : Option Sent) (b : Bool) → occurs_in c p ≡ b → (o : Option (Bor Word)) → option_copied o ≡ cond (a || b) (Some c) None → Spoils o (AllByRecursion (λ t. occurs c t ≡ false) (s ∷ prepend p [])) (x ∷ [])
    go true i p b j None g = cc
    go true i p b j (Some a) g = (λ h. (let q : true ≡ false = sym i ∙ h.0 in cc), (x, refl, e ∙ sym g))
    go false i None true j o g = cc
    go false i (Some t) true j None g = cc
    go false i (Some t) true j (Some a) g = (λ h. (let q : true ≡ false = sym j ∙ h.1.0 in cc), (x, refl, e ∙ sym g))
    go false i None false j None g = (i, tt)
    go false i (Some t) false j None g = (i, (j, tt))
    go false i p false j (Some a) g = cc

pub spoils_all : (o : Option (Bor Word)) (n : Option Subproof) (s : Sent) (ps : List Sent) (bs : List Subproof) → bs ≡ prepend n [] → option_copied o ≡ box_in (boxed_by n) s None → Spoils o (StaysArbitrary r.AllIntro ps bs s) bs
spoils_all o n s ps bs e g = subst (λ xs. Spoils o (StaysArbitrary r.AllIntro ps xs s) xs) (sym e) (go n o g)
  where
    go : (n : Option Subproof) (o : Option (Bor Word)) → option_copied o ≡ box_in (boxed_by n) s None → Spoils o (StaysArbitrary r.AllIntro ps (prepend n []) s) (prepend n [])
    go None None g = tt
    go None (Some a) g = cc
    go (Some x) o g = spoils_box o x x.boxed s None refl g

pub spoils_ex : (o : Option (Bor Word)) (n : Option Subproof) (p : Option Sent) (s : Sent) (ps : List Sent) (bs : List Subproof) → ps ≡ prepend p [] → bs ≡ prepend n [] → option_copied o ≡ box_in (boxed_by n) s p → Spoils o (StaysArbitrary r.ExElim ps bs s) bs
spoils_ex o n p s ps bs d e g = subst (λ ys. Spoils o (StaysArbitrary r.ExElim ys bs s) bs) (sym d) (subst (λ xs. Spoils o (StaysArbitrary r.ExElim (prepend p []) xs s) xs) (sym e) (go n o g))
  where
    go : (n : Option Subproof) (o : Option (Bor Word)) → option_copied o ≡ box_in (boxed_by n) s p → Spoils o (StaysArbitrary r.ExElim (prepend p []) (prepend n []) s) (prepend n [])
    go None None g = tt
    go None (Some a) g = cc
    go (Some x) o g = spoils_box o x x.boxed s p refl g

pub alone_spoils : (o : Option (Bor Word)) (ls : List FlatLine) (cs : List Cite) (d : Cite) (s : Sent) → cs ≡ d ∷ [] → subproofs_cited cs ≡ 1 → option_copied o ≡ box_in (boxed_by (subproof_between ls d.first d.last)) s None →
    Spoils o (StaysArbitrary r.AllIntro (sentences_read ls cs) (subproofs_read ls cs) s) (subproofs_read ls cs)
alone_spoils o ls cs d s e n g = spoils_all o (subproof_between ls d.first d.last) s (sentences_read ls cs) (subproofs_read ls cs) (alone_read ls cs d e n).1 g
