-- Instances in a row, one after the other, are closed terms put in at once.
use Rattle.std.proofs.Common.{IsTrue, ◌≡◌, ℕ, zero, suc, List, [], refl, ap, sym, ◌∙◌, subst, rules}
use Rattle.std.specs.Prelude.{Option, Some, None}
use Rattle.fol_core.specs.declared.sent.Sent.{Sent, out-Sent, roll-Sent, roll-out-Sent, the_lemmas}
use Rattle.fol_core.specs.declared.sent.Sent.TheOpen.{Sent-F}
use Rattle.fol_core.specs.declared.sent.Sent.TheOpen as f
use Rattle.fol_core.specs.declared.sent.Sent.TheVariants as s
use Rattle.fol_core.specs.declared.sent.Sent.TheFolds.{fold-roll-Sent, map-Sent}
use Rattle.fol_core.specs.Word.{Word}
use Rattle.fol_core.specs.declared.sent.Term.{Term}
use Rattle.fol_core.specs.Statements.{ground}
use Rattle.fol_core.specs.Subst.{subst_closed_term}
use Rattle.nested_proofs.specs.Rules.{InRow}
use Rattle.rules_quant.specs.declared.rows.Quantifier.{Quantifier}
use Rattle.rules_quant.specs.declared.rows.Quantifier.TheVariants.{Every, Exists}
use Rattle.rules_quant.specs.Naming.{Entry, HaveGround, hiding, naming, put_step, put}
use Rattle.rules_quant.specs.Rows.{quantified, Instance, Rows, Split, both, split}
use Rattle.rules_quant.proofs.Putting.{put_all, put_ex}
use Rattle.rules_quant.proofs.PutNames.{named_ground, put_renamed, newly_named}
use Rattle.rules_quant.proofs.PutNothing.{put_nothing}
use Rattle.rules_quant.proofs.Finding.{split_quantified, split_back}

put_quantified : (k : Quantifier) (x : Word) (p : Sent) (es : List Entry) → put (quantified k x p) es ≡ quantified k x (put p (hiding x es))
put_quantified Every x p es = put_all x p es
put_quantified Exists x p es = put_ex x p es

-- an instance, of either quantifier
instance_by : (k : Quantifier) (x : Word) (a : Term) (p s t : Sent) → IsTrue (ground a) → s ≡ quantified k x p → t ≡ subst_closed_term x a p → Instance k s t
instance_by Every x a p s t c e i = record { x = x; p = p; a = a; is_ground = c; whole = e; instance = i }
instance_by Exists x a p s t c e i = record { x = x; p = p; a = a; is_ground = c; whole = e; instance = i }

by_instance : (k : Quantifier) (s t : Sent) → Instance k s t → (x : Word) × (p : Sent) × (a : Term) × IsTrue (ground a) × (s ≡ quantified k x p) × (t ≡ subst_closed_term x a p)
by_instance Every s t i = (i.x, i.p, i.a, i.is_ground, i.whole, i.instance)
by_instance Exists s t i = (i.x, i.p, i.a, i.is_ground, i.whole, i.instance)

-- what stands behind a quantifier, with terms put in
abbrev put_split : List Entry → Option Split → Option Split
put_split es None = None
put_split es (Some y) = both y.variable (put y.matrix (hiding y.variable es))

split_put : (k : Quantifier) (q : Sent) (es : List Entry) → split k (put q es) ≡ put_split es (split k q)
split_put k q es = subst (λ r. split k (put r es) ≡ put_split es (split k r)) (roll-out-Sent q) (as_step k (out-Sent q))
  where
    go : (k : Quantifier) (y : Sent-F Sent) → split k (put_step (map-Sent Sent (List Entry → Sent) put y) es) ≡ put_split es (split k (roll-Sent y))
    go Every (f.Atom p ts) = search (rules, the_lemmas)
    go Every (f.Eq a b) = search (rules, the_lemmas)
    go Every f.Bottom = search (rules, the_lemmas)
    go Every (f.Not p) = search (rules, the_lemmas)
    go Every (f.And ps) = search (rules, the_lemmas)
    go Every (f.Or ps) = search (rules, the_lemmas)
    go Every (f.If p r) = search (rules, the_lemmas)
    go Every (f.Iff p r) = search (rules, the_lemmas)
    go Every (f.All x p) = search (rules, the_lemmas)
    go Every (f.Ex x p) = search (rules, the_lemmas)
    go Exists (f.Atom p ts) = search (rules, the_lemmas)
    go Exists (f.Eq a b) = search (rules, the_lemmas)
    go Exists f.Bottom = search (rules, the_lemmas)
    go Exists (f.Not p) = search (rules, the_lemmas)
    go Exists (f.And ps) = search (rules, the_lemmas)
    go Exists (f.Or ps) = search (rules, the_lemmas)
    go Exists (f.If p r) = search (rules, the_lemmas)
    go Exists (f.Iff p r) = search (rules, the_lemmas)
    go Exists (f.All x p) = search (rules, the_lemmas)
    go Exists (f.Ex x p) = search (rules, the_lemmas)

    as_step : (k : Quantifier) (y : Sent-F Sent) → split k (put (roll-Sent y) es) ≡ put_split es (split k (roll-Sent y))
    as_step k y = ap (λ (g : List Entry → Sent). split k (g es)) (fold-roll-Sent (List Entry → Sent) put_step y) ∙ go k y

abbrev first : Option Split → Word
first None = []
first (Some y) = y.variable

abbrev second : Option Split → Sent
second None = s.Bottom
second (Some y) = y.matrix

-- a sentence with terms put in begins with a quantifier where the sentence does
put_back : (k : Quantifier) (q : Sent) (es : List Entry) (x : Word) (p : Sent) → put q es ≡ quantified k x p → (r : Sent) × (q ≡ quantified k x r) × (p ≡ put r (hiding x es))
put_back k q es x p e = go (split k q) refl (sym (split_put k q es) ∙ ap (split k) e ∙ split_quantified k x p)
  where
    go : (o : Option Split) → split k q ≡ o → put_split es o ≡ both x p → (r : Sent) × (q ≡ quantified k x r) × (p ≡ put r (hiding x es))
    go None o h = cc
    go (Some y) o h =
        let v : y.variable ≡ x = ap first h in (
          y.matrix,
          split_back k q x y.matrix (o ∙ ap (λ w. both w y.matrix) v),
          sym (ap second h) ∙ ap (λ w. put y.matrix (hiding w es)) v,
        )

rows_in : (k : Quantifier) (n : ℕ) (q t : Sent) (es : List Entry) → HaveGround es → Rows k n q es t → InRow (Instance k) n (put q es) t
rows_in k zero q t es c r = sym r
rows_in k (suc n) q t es c r = (
  put r.1 (naming r.0 r.2 es),
  instance_by k r.0 r.2 (put r.1 (hiding r.0 es)) (put q es) (put r.1 (naming r.0 r.2 es)) r.3 (ap (λ z. put z es) r.4 ∙ put_quantified k r.0 r.1 es) (put_renamed r.0 r.2 r.1 es (naming r.0 r.2 es) c (newly_named r.0 r.2 es)),
  rows_in k n r.1 t (naming r.0 r.2 es) (named_ground r.0 r.2 es r.3 c) r.5,
)

in_rows : (k : Quantifier) (n : ℕ) (q t : Sent) (es : List Entry) → HaveGround es → InRow (Instance k) n (put q es) t → Rows k n q es t
in_rows k zero q t es c r = sym r
in_rows k (suc n) q t es c r =
    let i : (x : Word) × (p : Sent) × (m : Term) × IsTrue (ground m) × (put q es ≡ quantified k x p) × (r.0 ≡ subst_closed_term x m p) = by_instance k (put q es) r.0 r.1 in
    let b : (z : Sent) × (q ≡ quantified k i.0 z) × (i.1 ≡ put z (hiding i.0 es)) = put_back k q es i.0 i.1 i.4 in
    let e : r.0 ≡ put b.0 (naming i.0 i.2 es) = i.5 ∙ ap (subst_closed_term i.0 i.2) b.2 ∙ sym (put_renamed i.0 i.2 b.0 es (naming i.0 i.2 es) c (newly_named i.0 i.2 es)) in
    (i.0, b.0, i.2, i.3, b.1, in_rows k n b.0 t (naming i.0 i.2 es) (named_ground i.0 i.2 es i.3 c) (subst (λ z. InRow (Instance k) n z t) e r.2))

-- so many instances in a row lead from q to t exactly where the terms of a row are found
pub row_found : (k : Quantifier) (n : ℕ) (q t : Sent) → Rows k n q [] t → InRow (Instance k) n q t
row_found k n q t r = subst (λ z. InRow (Instance k) n z t) (put_nothing q) (rows_in k n q t [] (λ y. tt) r)

pub row_there : (k : Quantifier) (n : ℕ) (q t : Sent) → InRow (Instance k) n q t → Rows k n q [] t
row_there k n q t r = in_rows k n q t [] (λ y. tt) (subst (λ z. InRow (Instance k) n z t) (sym (put_nothing q)) r)
