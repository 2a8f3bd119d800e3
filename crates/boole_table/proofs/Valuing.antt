-- A valuation is that of the letters in another order.
use Rattle.std.proofs.Common.{◌≡◌, ℕ, zero, suc, ◌+◌, ◌<◌, Bool, true, false, List, [], ◌∷◌, length, map, drop, get_or, refl, sym, ap, ap₂, ◌∙◌, arith, inl, inr}
use Rattle.std.proofs.lemmas.List.{get_or_default}
use Rattle.std.proofs.Math.ListN.{drop_of_length-le}
use Rattle.std.specs.Prelude.{◌⊎◌, ◌||◌, ◌&&◌, if◌then◌else◌, Contains, slice_index_or}
use Rattle.std.specs.List.{list_any, AllByRecursion}
use Rattle.std.proofs.Math.Path.{fun_ext}
use Rattle.fol_core.proofs.Equality.{alike_refl, alike_same}
use Rattle.fol_core.specs.declared.sent.Sent.{Sent}
use Rattle.deriv_laws.specs.Discharge.{alike}
use Rattle.taut_con.specs.Values.{valuation, value}
use Rattle.boole_table.specs.StandardTable.{values_under}
use Rattle.boole_table.proofs.Scanning.{next}

-- The sentence is one of the letters.
abbrev pub is_letter : List Sent → Sent → Bool
is_letter ls p = list_any (λ l. alike l p) ls

or_true : (b : Bool) → (b || true) ≡ true
or_true true = refl
or_true false = refl

letter_at : (ls : List Sent) (p : Sent) (k : ℕ) → k < length ls → slice_index_or ls k p ≡ p → is_letter ls p ≡ true
letter_at [] p k h e = absurd (omega (arith, h))
letter_at (l ∷ ls) p zero h e = ap (λ b. b || is_letter ls p) (ap (λ x. alike x p) e ∙ alike_refl p)
letter_at (l ∷ ls) p (suc k) h e = ap (λ b. alike l p || b) (letter_at ls p k (omega (arith, h)) e) ∙ or_true (alike l p)

-- Beside the letters with the values that v gives them, each letter has the value that v gives it.
beside_one : (l : Sent) (ls : List Sent) (v : Sent → Bool) (p : Sent) → valuation ls (map v ls) p ≡ (is_letter ls p && v p) → (c : Bool) → c ≡ alike l p →
    (if c then v l else valuation ls (map v ls) p) ≡ ((c || is_letter ls p) && v p)
beside_one l ls v p h true e = ap v (alike_same l p (sym e))
beside_one l ls v p h false e = h

beside : (ls : List Sent) (v : Sent → Bool) (p : Sent) → valuation ls (map v ls) p ≡ (is_letter ls p && v p)
beside [] v p = refl
beside (l ∷ ls) v p = beside_one l ls v p (beside ls v p) (alike l p) refl

-- What is no letter has no value beside columns that are letters.
outside_one : (ls : List Sent) (c : Sent) (cs : List Sent) (b : Bool) (bs : List Bool) (p : Sent) → is_letter ls p ≡ false → Contains ls c → valuation cs bs p ≡ false → (d : Bool) → d ≡ alike c p →
    (if d then b else valuation cs bs p) ≡ false
outside_one ls c cs b bs p h k i true e =
    let s : c ≡ p = alike_same c p (sym e) in
    let t : is_letter ls c ≡ true = letter_at ls c k.0 k.1 k.2 in
    let u : is_letter ls c ≡ is_letter ls p = ap (is_letter ls) s in
    absurd (cc)
outside_one ls c cs b bs p h k i false e = i

outside : (ls cs : List Sent) (bs : List Bool) (p : Sent) → is_letter ls p ≡ false → AllByRecursion (Contains ls) cs → valuation cs bs p ≡ false
outside ls [] bs p h k = refl
outside ls (c ∷ cs) [] p h k = refl
outside ls (c ∷ cs) (b ∷ bs) p h k = outside_one ls c cs b bs p h k.0 (outside ls cs bs p h k.1) (alike c p) refl

-- The letters with the values that they have beside the columns make the same valuation as the columns.
same_valuation : (ls cs : List Sent) (bs : List Bool) → AllByRecursion (Contains ls) cs → valuation ls (map (valuation cs bs) ls) ≡ valuation cs bs
same_valuation ls cs bs k = fun_ext (λ p. beside ls (valuation cs bs) p ∙ kept p (is_letter ls p) refl)
  where
    kept : (p : Sent) (c : Bool) → c ≡ is_letter ls p → (c && valuation cs bs p) ≡ valuation cs bs p
    kept p true e = refl
    kept p false e = sym (outside ls cs bs p (sym e) k)

pub same_cells : (ls cs : List Sent) (bs : List Bool) (ss : List Sent) → AllByRecursion (Contains ls) cs → values_under ls (map (valuation cs bs) ls) ss ≡ values_under cs bs ss
same_cells ls cs bs ss k = ap (λ v. map (value v) ss) (same_valuation ls cs bs k)

-- looking for a letter among the columns

nil_value : (cs : List Sent) (p : Sent) → valuation cs [] p ≡ false
nil_value [] p = refl
nil_value (c ∷ cs) p = refl

not_alike : (c p : Sent) → (c ≡ p → ⊥) → (b : Bool) → b ≡ alike c p → alike c p ≡ false
not_alike c p n true e = absurd (n (alike_same c p (sym e)))
not_alike c p n false e = sym e

rest_of : (bs : List Bool) (i : ℕ) → ((drop i bs ≡ []) × (drop (i + 1) bs ≡ [])) ⊎ (i < length bs)
rest_of [] i = inl (drop_of_length-le [] (omega arith), drop_of_length-le [] (omega arith))
rest_of (b ∷ bs) zero = inr (omega arith)
rest_of (b ∷ bs) (suc i) = later (rest_of bs i)
  where
    later : ((drop i bs ≡ []) × (drop (i + 1) bs ≡ [])) ⊎ (i < length bs) → ((drop (suc i) (b ∷ bs) ≡ []) × (drop (suc i + 1) (b ∷ bs) ≡ [])) ⊎ (suc i < length (b ∷ bs))
    later (inl h) = let e : suc i + 1 ≡ suc (i + 1) = omega arith in inl (h.0, ap (λ n. drop n (b ∷ bs)) e ∙ h.1)
    later (inr h) = inr (omega (arith, h))

one_value : (c : Sent) (cs : List Sent) (b : Bool) (bs : List Bool) (p : Sent) (d : Bool) → alike c p ≡ d → valuation (c ∷ cs) (b ∷ bs) p ≡ (if d then b else valuation cs bs p)
one_value c cs b bs p d e = ap (λ x. if x then b else valuation cs bs p) e

pub value_hit : (cs : List Sent) (bs : List Bool) (p : Sent) (i : ℕ) (c : Sent) → i < length cs → c ≡ get_or cs i c → c ≡ p → i < length bs → valuation (drop i cs) (drop i bs) p ≡ get_or bs i false
value_hit cs bs p i c h e s k =
    ap₂ (λ xs ys. valuation xs ys p) (next cs i c h e) (next bs i (get_or bs i false) k (get_or_default bs i false (get_or bs i false) k))
    ∙ one_value c (drop (i + 1) cs) (get_or bs i false) (drop (i + 1) bs) p true (ap (λ x. alike c x) (sym s) ∙ alike_refl c)

pub value_miss : (cs : List Sent) (bs : List Bool) (p : Sent) (i : ℕ) (c : Sent) → i < length cs → c ≡ get_or cs i c → (c ≡ p → ⊥) → valuation (drop i cs) (drop i bs) p ≡ valuation (drop (i + 1) cs) (drop (i + 1) bs) p
value_miss cs bs p i c h e n = miss (rest_of bs i)
  where
    miss : ((drop i bs ≡ []) × (drop (i + 1) bs ≡ [])) ⊎ (i < length bs) → valuation (drop i cs) (drop i bs) p ≡ valuation (drop (i + 1) cs) (drop (i + 1) bs) p
    miss (inl k) = ap (λ ys. valuation (drop i cs) ys p) k.0 ∙ nil_value (drop i cs) p ∙ sym (ap (λ ys. valuation (drop (i + 1) cs) ys p) k.1 ∙ nil_value (drop (i + 1) cs) p)
    miss (inr k) =
        ap₂ (λ xs ys. valuation xs ys p) (next cs i c h e) (next bs i (get_or bs i false) k (get_or_default bs i false (get_or bs i false) k))
        ∙ one_value c (drop (i + 1) cs) (get_or bs i false) (drop (i + 1) bs) p false (not_alike c p n (alike c p) refl)
