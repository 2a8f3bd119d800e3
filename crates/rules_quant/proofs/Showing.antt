-- What a subproof about an arbitrary object shows, read off the lines.
use Rattle.std.proofs.Common.{◌≡◌, ◌-◌, Bool, List, [], ◌∷◌, length, get_or, take, drop, sym, ap, subst, ◌∙◌, Option, Some, None, IsTrue, ◌↔◌, inl, inr, arith}
use Rattle.std.specs.Prelude.{slice_get}
use Rattle.fol_core.specs.declared.sent.Sent.{Sent}
use Rattle.fol_core.specs.declared.sent.Sent.TheVariants as s
use Rattle.fol_core.specs.Word.{Word}
use Rattle.fol_core.specs.Subst.{subst_name}
use Rattle.deriv_laws.specs.declared.rule.Rule.TheVariants as r
use Rattle.deriv_laws.specs.declared.line.Cite.{Cite}
use Rattle.deriv_laws.specs.declared.line.FlatLine.{FlatLine}
use Rattle.nested_proofs.specs.Scope.{Subproof}
use Rattle.nested_proofs.specs.Rules.{Generalizes, Follows}
use Rattle.nested_proofs.specs.ReadOff.{IsWithin, stated_by, stated_at, ends_in, begun_by, subproof_between, concluded_by}
use Rattle.nested_proofs.proofs.Reading.{line_at}
use Rattle.rules_quant.specs.declared.rows.Quantifier.TheVariants.{Every, Exists}
use Rattle.rules_quant.specs.Shown.{IsInstance, IsGeneral, ShowsAll, ShowsFrom, IsGeneralAt, IsFromInstanceAt}
use Rattle.rules_quant.specs.Rows.{both, split}
use Rattle.rules_quant.proofs.Finding.{split_quantified, first, second}

all_same : (x y : Word) (p q : Sent) → s.All x p ≡ s.All y q → (x ≡ y) × (p ≡ q)
all_same x y p q e =
    let h : both x p ≡ both y q = sym (split_quantified Every x p) ∙ ap (split Every) e ∙ split_quantified Every y q in
    (ap first h, ap second h)

ex_same : (x y : Word) (p q : Sent) → s.Ex x p ≡ s.Ex y q → (x ≡ y) × (p ≡ q)
ex_same x y p q e =
    let h : both x p ≡ both y q = sym (split_quantified Exists x p) ∙ ap (split Exists) e ∙ split_quantified Exists y q in
    (ap first h, ap second h)

pub all_shown : (hyp end : Option Sent) (c x : Word) (p t : Sent) (b : Bool) → t ≡ s.All x p → IsTrue b ↔ IsGeneral hyp end c x p → IsTrue b ↔ ShowsAll hyp end c t
all_shown hyp end c x p t b e h = (
  λ i. (x, p, e, h.0 i),
  λ w. h.1 (
      let q : (w.0 ≡ x) × (w.1 ≡ p) = all_same w.0 x w.1 p (sym w.2 ∙ e) in
      subst (λ y. IsGeneral hyp end c y p) q.0 (subst (λ z. IsGeneral hyp end c w.0 z) q.1 w.3)),
)

pub from_shown : (hyp end : Option Sent) (c x : Word) (q t p : Sent) (b : Bool) → p ≡ s.Ex x q → IsTrue b ↔ (IsInstance hyp q x c × (end ≡ Some t)) → IsTrue b ↔ ShowsFrom hyp end c p t
from_shown hyp end c x q t p b e h = (
  λ i. let w = h.0 i in (x, q, e, w.0, w.1),
  λ w. h.1 (
      let g : (w.0 ≡ x) × (w.1 ≡ q) = ex_same w.0 x w.1 q (sym w.2 ∙ e) in
      (subst (λ y. IsInstance hyp q y c) g.0 (subst (λ z. IsInstance hyp z w.0 c) g.1 w.3), w.4)),
)

-- the subproof that begins with the line
subproof_by : List FlatLine → Cite → FlatLine → Subproof
subproof_by lines c l = record { first = c.first; last = c.last; boxed = l.boxed; hypothesis = l.sentence; conclusion = ends_in l (take (c.last - c.first) (drop c.first lines)) }

general_by : (b : Subproof) (c x : Word) (p : Sent) → IsGeneral b.hypothesis b.conclusion c x p → Generalizes b c x p
general_by b c x p (inl w) = inl w
general_by b c x p (inr w) = inr (w.0, w.1, w.2, record { from = w.3; to = w.4 })

by_general : (b : Subproof) (c x : Word) (p : Sent) → Generalizes b c x p → IsGeneral b.hypothesis b.conclusion c x p
by_general b c x p (inl w) = inl w
by_general b c x p (inr w) = inr (w.0, w.1, w.2, w.3.from, w.3.to)

-- the line, and what stands there, as it is read off
pub record IsRead (lines : List FlatLine) (d : Cite) (l : FlatLine) (c : Word) (hyp end : Option Sent) : Type 0 where
  pub within : IsWithin (length lines) d
  pub line : l ≡ get_or lines (d.first - 1) l
  pub boxed : l.boxed ≡ Some c
  pub hypothesis : hyp ≡ stated_at lines d.first
  pub conclusion : end ≡ concluded_by (subproof_between lines d.first d.last)

-- the subproof between the lines, with its parts
found : (lines : List FlatLine) (d : Cite) (l : FlatLine) (c : Word) (hyp end : Option Sent) → IsRead lines d l c hyp end →
    (b : Subproof) × (subproof_between lines d.first d.last ≡ Some b) × (b.boxed ≡ Some c) × (hyp ≡ b.hypothesis) × (end ≡ b.conclusion)
unfolding subproof_by
found lines d l c hyp end i =
    let g : slice_get lines (d.first - 1) ≡ Some l = line_at lines d.first l i.within.from_one (omega (arith, i.within.in_order, i.within.to_last)) i.line in
    let e : subproof_between lines d.first d.last ≡ Some (subproof_by lines d l) = ap (begun_by lines d.first d.last) g in
    (subproof_by lines d l, e, i.boxed, i.hypothesis ∙ ap stated_by g, i.conclusion ∙ ap concluded_by e)

pub general_at : (lines : List FlatLine) (d : Cite) (l : FlatLine) (c : Word) (hyp end : Option Sent) (t : Sent) (b : Bool) → IsRead lines d l c hyp end → IsTrue b ↔ ShowsAll hyp end c t → IsTrue b ↔ IsGeneralAt lines d t
general_at lines d l c hyp end t b i h = go (found lines d l c hyp end i)
  where
    go : ((x : Subproof) × (subproof_between lines d.first d.last ≡ Some x) × (x.boxed ≡ Some c) × (hyp ≡ x.hypothesis) × (end ≡ x.conclusion)) → IsTrue b ↔ IsGeneralAt lines d t
    go (x, e, m, f, g) = (
      λ j. let w : ShowsAll x.hypothesis x.conclusion c t = subst (λ o. ShowsAll x.hypothesis o c t) g (subst (λ o. ShowsAll o end c t) f (h.0 j)) in (x, e, (c, w.0, w.1, m, w.2, general_by x c w.0 w.1 w.3)),
      λ j. h.1 (back j.0 (let q : Some j.0 ≡ Some x = sym j.1 ∙ e in cc) j.2),
    )
      where
        back : (y : Subproof) → y ≡ x → Follows r.AllIntro [] (y ∷ []) t → ShowsAll hyp end c t
        back y q v =
            let w : Follows r.AllIntro [] (x ∷ []) t = subst (λ z. Follows r.AllIntro [] (z ∷ []) t) q v in
            let same : w.0 ≡ c = (let p : Some w.0 ≡ Some c = sym w.3 ∙ m in cc) in
            let shown : ShowsAll x.hypothesis x.conclusion c t = (w.1, w.2, w.4, by_general x c w.1 w.2 (subst (λ z. Generalizes x z w.1 w.2) same w.5)) in
            subst (λ o. ShowsAll o end c t) (sym f) (subst (λ o. ShowsAll x.hypothesis o c t) (sym g) shown)

pub from_instance_at : (lines : List FlatLine) (d : Cite) (l : FlatLine) (c : Word) (hyp end : Option Sent) (p t : Sent) (b : Bool) → IsRead lines d l c hyp end → IsTrue b ↔ ShowsFrom hyp end c p t → IsTrue b ↔ IsFromInstanceAt lines d p t
from_instance_at lines d l c hyp end p t b i h = go (found lines d l c hyp end i)
  where
    go : ((x : Subproof) × (subproof_between lines d.first d.last ≡ Some x) × (x.boxed ≡ Some c) × (hyp ≡ x.hypothesis) × (end ≡ x.conclusion)) → IsTrue b ↔ IsFromInstanceAt lines d p t
    go (x, e, m, f, g) = (
      λ j. let w : ShowsFrom x.hypothesis x.conclusion c p t = subst (λ o. ShowsFrom x.hypothesis o c p t) g (subst (λ o. ShowsFrom o end c p t) f (h.0 j)) in (x, e, (c, w.0, w.1, m, w.2, record { from = w.3; to = w.4 })),
      λ j. h.1 (back j.0 (let q : Some j.0 ≡ Some x = sym j.1 ∙ e in cc) j.2),
    )
      where
        back : (y : Subproof) → y ≡ x → Follows r.ExElim (p ∷ []) (y ∷ []) t → ShowsFrom hyp end c p t
        back y q v =
            let w : Follows r.ExElim (p ∷ []) (x ∷ []) t = subst (λ z. Follows r.ExElim (p ∷ []) (z ∷ []) t) q v in
            let same : w.0 ≡ c = (let o : Some w.0 ≡ Some c = sym w.3 ∙ m in cc) in
            let shown : ShowsFrom x.hypothesis x.conclusion c p t = (w.1, w.2, w.4, subst (λ z. x.hypothesis ≡ Some (subst_name w.1 z w.2)) same w.5.from, w.5.to) in
            subst (λ o. ShowsFrom o end c p t) (sym f) (subst (λ o. ShowsFrom x.hypothesis o c p t) (sym g) shown)

-- without a box nothing is shown
pub unboxed_at : (lines : List FlatLine) (d : Cite) (l : FlatLine) → IsWithin (length lines) d → l ≡ get_or lines (d.first - 1) l → l.boxed ≡ None → (x : Subproof) → subproof_between lines d.first d.last ≡ Some x → x.boxed ≡ None
unfolding subproof_by
unboxed_at lines d l i e n x f =
    let g : slice_get lines (d.first - 1) ≡ Some l = line_at lines d.first l i.from_one (omega (arith, i.in_order, i.to_last)) e in
    let h : Some (subproof_by lines d l) ≡ Some x = sym (ap (begun_by lines d.first d.last) g) ∙ f in
    let q : x ≡ subproof_by lines d l = cc in
    ap (λ (y : Subproof). y.boxed) q ∙ n
