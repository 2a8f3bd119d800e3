-- The terms of instances in a row are those that are read off, where one is to be read; else any closed term will do.
use Rattle.std.proofs.Common.{true≢false, ◌≡◌, ℕ, zero, suc, ◌-◌, List, [], refl, ap, ap₂, sym, ◌∙◌, subst, Bool, true, false, rules, inl, inr, ◌⊎◌, IsTrue, ◌↔◌, arith}
use Rattle.std.specs.Prelude.{cond, Option, Some, None}
use Rattle.std.specs.Str.{bytes_eq}
use Rattle.fol_core.specs.declared.sent.Sent.{Sent, out-Sent, roll-Sent, roll-out-Sent, the_lemmas}
use Rattle.fol_core.specs.declared.sent.Sent.TheOpen.{Sent-F}
use Rattle.fol_core.specs.declared.sent.Sent.TheOpen as f
use Rattle.fol_core.specs.declared.sent.Sent.TheVariants as s
use Rattle.fol_core.specs.Word.{Word}
use denote.Hole.Carrier.{roll}
use Rattle.fol_core.specs.declared.sent.Term.{Term}
use Rattle.fol_core.specs.Statements.{ground}
use Rattle.fol_core.specs.Subst.{subst_closed_term}
use Rattle.fol_core.specs.Naming.{term_where}
use Rattle.fol_core.proofs.Equality.{bytes_same, word_same}
use Rattle.fol_core.proofs.NamesAlone.{term_alone}
use Rattle.rules_quant.specs.declared.rows.Quantifier.{Quantifier}
use Rattle.rules_quant.specs.declared.rows.Quantifier.TheVariants.{Every, Exists}
use Rattle.rules_quant.specs.Naming.{Entry, term_for, HaveGround, hiding, naming, put}
use Rattle.rules_quant.specs.Rows.{quantified, Rows, Split, both, split, read_under, read_past}
use Rattle.rules_quant.proofs.PutNames.{Renames, hidden_ground, named_ground, put_same, put_renamed, named, renamed, differ}
use Rattle.rules_quant.proofs.ReadNames.{reads_same}

pub split_quantified : (k : Quantifier) (x : Word) (p : Sent) → split k (quantified k x p) ≡ both x p
split_quantified Every x p = search (rules, the_lemmas)
split_quantified Exists x p = search (rules, the_lemmas)

rows_same : (k : Quantifier) (n : ℕ) (p t : Sent) (es fs : List Entry) → HaveGround es → ((y : Word) → term_for fs y ≡ term_for es y) → Rows k n p es t → Rows k n p fs t
rows_same k zero p t es fs c h r = r ∙ put_same p es fs c h
rows_same k (suc n) p t es fs c h r = (r.0, r.1, r.2, r.3, r.4, rows_same k n r.1 t (naming r.0 r.2 es) (naming r.0 r.2 fs) (named_ground r.0 r.2 es r.3 c) (λ y. ap (cond (bytes_eq r.0 y) (Some r.2)) (h y)) r.5)

-- The term m of x is read off; or none is, and then x may have any closed term.
abbrev IsRead : Quantifier → Word → Sent → ℕ → Sent → Term → List Entry → Option Term → Type 0
IsRead k x t n p m es o = (o ≡ Some m) ⊎ ((o ≡ None) × ((l : Term) (fs : List Entry) → IsTrue (ground l) → Renames x l es fs → Rows k n p fs t))

none_hidden : (x : Word) (es : List Entry) → term_for (hiding x es) x ≡ None
none_hidden x es = ap (λ b. cond b None (term_for es x)) (bytes_same x)

read_here : (k : Quantifier) (x : Word) (m : Term) (t p : Sent) (es : List Entry) → HaveGround es → term_for es x ≡ Some m → t ≡ put p es → IsRead k x t zero p m es (term_where x p true t)
read_here k x m t p es c e r =
    let whole : t ≡ subst_closed_term x m (put p (hiding x es)) = r ∙ put_renamed x m p es es c (record { here = e; elsewhere = λ y h. refl }) in
    let same : term_where x (put p (hiding x es)) true t ≡ term_where x p true t = reads_same x p true (hiding x es) (hidden_ground x es c) (λ h. none_hidden x es) t in
    go same (term_alone x m (put p (hiding x es)) t whole)
  where
    go : term_where x (put p (hiding x es)) true t ≡ term_where x p true t →
        (term_where x (put p (hiding x es)) true t ≡ Some m) ⊎ ((term_where x (put p (hiding x es)) true t ≡ None) × ((l : Term) → t ≡ subst_closed_term x l (put p (hiding x es)))) → IsRead k x t zero p m es (term_where x p true t)
    go same (inl w) = inl (sym same ∙ w)
    go same (inr (w, u)) = inr (sym same ∙ w, λ l fs i d. u l ∙ sym (put_renamed x l p es fs c d))

-- below a quantifier of z
same_below : (x z : Word) (w : Term) (es fs : List Entry) → bytes_eq z x ≡ true → ((y : Word) → bytes_eq y x ≡ false → term_for fs y ≡ term_for es y) → (y : Word) → term_for (naming z w fs) y ≡ term_for (naming z w es) y
same_below x z w es fs e h y = go (bytes_eq z y) refl
  where
    go : (b : Bool) → bytes_eq z y ≡ b → cond b (Some w) (term_for fs y) ≡ cond b (Some w) (term_for es y)
    go true g = refl
    go false g = h y (differ x y (ap (λ v. bytes_eq v y) (sym (word_same z x e)) ∙ g))

renames_below : (x : Word) (l : Term) (z : Word) (w : Term) (es fs : List Entry) → bytes_eq z x ≡ false → Renames x l es fs → Renames x l (naming z w es) (naming z w fs)
renames_below x l z w es fs e r = record {
  here = ap (λ b. cond b (Some w) (term_for fs x)) e ∙ r.here;
  elsewhere = λ y h. ap (cond (bytes_eq z y) (Some w)) (r.elsewhere y h);
}

pub rows_read : (k : Quantifier) (n : ℕ) (x : Word) (m : Term) (t p : Sent) (es : List Entry) → HaveGround es → term_for es x ≡ Some m → Rows k n p es t → IsRead k x t n p m es (read_past k x t n p)
rows_read k zero x m t p es c e r = read_here k x m t p es c e r
rows_read k (suc n) x m t p es c e r = go (bytes_eq r.0 x) refl (λ g. rows_read k n x m t r.1 (naming r.0 r.2 es) (named_ground r.0 r.2 es r.3 c) (ap (λ b. cond b (Some r.2) (term_for es x)) g ∙ e) r.5)
  where
    seen : read_past k x t (suc n) p ≡ cond (bytes_eq r.0 x) None (read_past k x t n r.1)
    seen = ap (read_under x (read_past k x t n)) (ap (split k) r.4 ∙ split_quantified k r.0 r.1)

    below : bytes_eq r.0 x ≡ false → IsRead k x t n r.1 m (naming r.0 r.2 es) (read_past k x t n r.1) → IsRead k x t (suc n) p m es (read_past k x t (suc n) p)
    below g (inl w) = inl (seen ∙ ap (λ b. cond b None (read_past k x t n r.1)) g ∙ w)
    below g (inr (w, u)) = inr (seen ∙ ap (λ b. cond b None (read_past k x t n r.1)) g ∙ w, λ l fs i d. (r.0, r.1, r.2, r.3, r.4, u l (naming r.0 r.2 fs) i (renames_below x l r.0 r.2 es fs g d)))

    go : (b : Bool) → bytes_eq r.0 x ≡ b → (bytes_eq r.0 x ≡ false → IsRead k x t n r.1 m (naming r.0 r.2 es) (read_past k x t n r.1)) → IsRead k x t (suc n) p m es (read_past k x t (suc n) p)
    go true g later = inr (seen ∙ ap (λ b. cond b None (read_past k x t n r.1)) g, λ l fs i d. (r.0, r.1, r.2, r.3, r.4, rows_same k n r.1 t (naming r.0 r.2 es) (naming r.0 r.2 fs) (named_ground r.0 r.2 es r.3 c) (same_below x r.0 r.2 es fs g d.elsewhere) r.5))
    go false g later = below g (later g)

-- the variable and the matrix
abbrev pub first : Option Split → Word
first None = []
first (Some y) = y.variable

abbrev pub second : Option Split → Sent
second None = s.Bottom
second (Some y) = y.matrix

pub split_back : (k : Quantifier) (q : Sent) (x : Word) (p : Sent) → split k q ≡ both x p → q ≡ quantified k x p
unfolding roll-Sent roll
split_back Every q x p e = go (out-Sent q) refl e
  where
    go : (y : Sent-F Sent) → out-Sent q ≡ y → elim y [ f.All z r ↦ both z r | _ ↦ None ] ≡ both x p → q ≡ s.All x p
    go (f.All z r) o e = sym (roll-out-Sent q) ∙ ap roll-Sent o ∙ ap₂ s.All (ap first e) (ap second e)
    go y o e = cc
split_back Exists q x p e = go (out-Sent q) refl e
  where
    go : (y : Sent-F Sent) → out-Sent q ≡ y → elim y [ f.Ex z r ↦ both z r | _ ↦ None ] ≡ both x p → q ≡ s.Ex x p
    go (f.Ex z r) o e = sym (roll-out-Sent q) ∙ ap roll-Sent o ∙ ap₂ s.Ex (ap first e) (ap second e)
    go y o e = cc

-- With the closed term that is read off, or with any where none is, the row is found if there is one.
pub rows_step : (k : Quantifier) (n : ℕ) (q t : Sent) (es : List Entry) (x : Word) (p : Sent) (m : Term) (b : Bool) → HaveGround es → IsTrue (ground m) → split k q ≡ both x p → (read_past k x t n p ≡ Some m) ⊎ (read_past k x t n p ≡ None) →
    IsTrue b ↔ Rows k n p (naming x m es) t → IsTrue b ↔ Rows k (suc n) q es t
rows_step k n q t es x p m b c i e o h = (λ j. (x, p, m, i, split_back k q x p e, h.0 j), λ r. h.1 (back r))
  where
    found : (w : Term) → Rows k n p (naming x w es) t → IsRead k x t n p w (naming x w es) (read_past k x t n p) → (read_past k x t n p ≡ Some m) ⊎ (read_past k x t n p ≡ None) → Rows k n p (naming x m es) t
    found w r (inl a) (inl d) = subst (λ v. Rows k n p (naming x v es) t) (let y : Some w ≡ Some m = sym a ∙ d in let z : w ≡ m = cc in z) r
    found w r (inl a) (inr d) = let y : Some w ≡ None = sym a ∙ d in cc
    found w r (inr (a, u)) d = u m (naming x m es) i (renamed x m w es)

    back : Rows k (suc n) q es t → Rows k n p (naming x m es) t
    back r =
        let g : both r.0 r.1 ≡ both x p = sym (split_quantified k r.0 r.1) ∙ sym (ap (split k) r.4) ∙ e in
        let a : r.0 ≡ x = ap first g in
        let d : r.1 ≡ p = ap second g in
        let s : Rows k n p (naming x r.2 es) t = subst (λ v. Rows k n p (naming v r.2 es) t) a (subst (λ v. Rows k n v (naming r.0 r.2 es) t) d r.5) in
        found r.2 s (rows_read k n x r.2 t p (naming x r.2 es) (named_ground x r.2 es r.3 c) (named x r.2 es) s) o

-- the same for a count that isn't 0
pub rows_next : (k : Quantifier) (n : ℕ) (q t : Sent) (es : List Entry) (x : Word) (p : Sent) (m : Term) (b : Bool) → HaveGround es → IsTrue (ground m) → (n ≡ 0 → ⊥) → split k q ≡ both x p → (read_past k x t (n - 1) p ≡ Some m) ⊎ (read_past k x t (n - 1) p ≡ None) →
    IsTrue b ↔ Rows k (n - 1) p (naming x m es) t → IsTrue b ↔ Rows k n q es t
rows_next k n q t es x p m b c i z e o h = subst (λ j. IsTrue b ↔ Rows k j q es t) (let g : suc (n - 1) ≡ n = grind arith in g) (rows_step k (n - 1) q t es x p m b c i e o h)

-- where what is read off isn't closed, there is no row
pub not_ground : (k : Quantifier) (n : ℕ) (q t : Sent) (es : List Entry) (x : Word) (p : Sent) (m : Term) → HaveGround es → ground m ≡ false → (n ≡ 0 → ⊥) → split k q ≡ both x p → read_past k x t (n - 1) p ≡ Some m → Rows k n q es t → ⊥
not_ground k zero q t es x p m c f z e o r = z refl
not_ground k (suc n) q t es x p m c f z e o r =
    let g : both r.0 r.1 ≡ both x p = sym (split_quantified k r.0 r.1) ∙ sym (ap (split k) r.4) ∙ e in
    let a : r.0 ≡ x = ap first g in
    let d : r.1 ≡ p = ap second g in
    let s : Rows k n p (naming x r.2 es) t = subst (λ v. Rows k n p (naming v r.2 es) t) a (subst (λ v. Rows k n v (naming r.0 r.2 es) t) d r.5) in
    read (rows_read k n x r.2 t p (naming x r.2 es) (named_ground x r.2 es r.3 c) (named x r.2 es) s)
  where
    here : read_past k x t n p ≡ Some m
    here = subst (λ j. read_past k x t j p ≡ Some m) (let w : suc n - 1 ≡ n = omega arith in w) o

    read : IsRead k x t n p r.2 (naming x r.2 es) (read_past k x t n p) → ⊥
    read (inl w) =
        let same : Some r.2 ≡ Some m = sym w ∙ here in
        let one : r.2 ≡ m = cc in
        true≢false (sym r.3 ∙ ap ground one ∙ f)
    read (inr (w, u)) = let none : None ≡ Some m = sym w ∙ here in cc

-- without the quantifier there is no row
pub no_row : (k : Quantifier) (n : ℕ) (q t : Sent) (es : List Entry) → (n ≡ 0 → ⊥) → split k q ≡ None → Rows k n q es t → ⊥
no_row k zero q t es z e r = z refl
no_row k (suc n) q t es z e r = let g : None ≡ both r.0 r.1 = sym e ∙ ap (split k) r.4 ∙ split_quantified k r.0 r.1 in cc
