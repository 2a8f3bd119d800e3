-- The value beside a letter, by the letter's place.
use Rattle.std.proofs.Common.{◌≡◌, ℕ, zero, suc, ◌+◌, ◌<◌, ◌≤◌, List, [], ◌∷◌, length, get_or, map, refl, ap, ap₂, sym, ◌∙◌, subst, Bool, true, false, true≢false, arith}
use Rattle.std.specs.Prelude.{not, ◌&&◌, cond, nat_lt}
use Rattle.std.specs.List.{position_or_len, range_with_len}
use Rattle.std.proofs.lemmas.Bool.{ltb-false, ltb-true, lt-ltb, le-ltb}
use Rattle.std.proofs.lemmas.List.Sums.{position_or_len_is}
use Rattle.fol_core.specs.declared.sent.Sent.{Sent}
use Rattle.deriv_laws.specs.Discharge.{alike}
use Rattle.taut_con.specs.Rows.{letter_in_row, row_values}
use Rattle.taut_con.specs.Values.{valuation}
use Rattle.taut_con.proofs.Gathering.{same_truth}

abbrev pub place : List Sent → Sent → ℕ
place ls p = position_or_len (λ l. alike l p) ls

lt_up : (k n : ℕ) → nat_lt k n ≡ nat_lt (suc k) (suc n)
lt_up k n = same_truth (nat_lt k n) (nat_lt (suc k) (suc n)) (λ h. lt-ltb (suc k) (suc n) (omega (arith, ltb-true k n h))) (λ h. lt-ltb k n (omega (arith, ltb-true (suc k) (suc n) h)))

one_place : (a b : Bool) (bs : List Bool) (n k : ℕ) (v : Bool) → v ≡ (nat_lt k n && get_or bs k false) →
    cond a b v ≡ (nat_lt (cond (not a) (1 + k) 0) (suc n) && get_or (b ∷ bs) (cond (not a) (1 + k) 0) false)
one_place true b bs n k v e = ap (λ c. c && b) (sym (lt-ltb 0 (suc n) (omega arith)))
one_place false b bs n k v e =
    let one : suc k ≡ 1 + k = omega arith in
    let up : v ≡ (nat_lt (suc k) (suc n) && get_or bs k false) = e ∙ ap (λ c. c && get_or bs k false) (lt_up k n) in
    subst (λ (j : ℕ). v ≡ (nat_lt j (suc n) && get_or (b ∷ bs) j false)) one up

and_false : (a : Bool) → (a && false) ≡ false
and_false true = refl
and_false false = refl

pub valued_at : (ls : List Sent) (bs : List Bool) (p : Sent) → valuation ls bs p ≡ (nat_lt (place ls p) (length ls) && get_or bs (place ls p) false)
valued_at [] bs p = refl
valued_at (l ∷ ls) [] p = sym (and_false (nat_lt (place (l ∷ ls) p) (length (l ∷ ls))))
valued_at (l ∷ ls) (b ∷ bs) p = one_place (alike l p) b bs (length ls) (place ls p) (valuation ls bs p) (valued_at ls bs p)

past : (bs : List Bool) (k : ℕ) → length bs ≤ k → get_or bs k false ≡ false
past [] k h = refl
past (b ∷ bs) zero h = absurd (omega (arith, h))
past (b ∷ bs) (suc k) h = past bs k (omega (arith, h))

within : (bs : List Bool) (k n : ℕ) (c : Bool) → nat_lt k n ≡ c → length bs ≤ n → (c && get_or bs k false) ≡ get_or bs k false
within bs k n true e h = refl
within bs k n false e h = sym (past bs k (omega (arith, h, ltb-false k n e)))

-- Where there are no more values than letters, the place alone tells.
pub valued_by_place : (ls : List Sent) (bs : List Bool) (p : Sent) → length bs ≤ length ls → valuation ls bs p ≡ get_or bs (place ls p) false
valued_by_place ls bs p h = valued_at ls bs p ∙ within bs (place ls p) (length ls) (nat_lt (place ls p) (length ls)) refl h

-- The first of the letters that is the sentence gives its place.
pub found_at : (ls : List Sent) (p l : Sent) (i : ℕ) → i < length ls → l ≡ get_or ls i l → ((k : ℕ) (d : Sent) → k < i → alike (get_or ls k d) p ≡ false) → alike l p ≡ true → i ≡ place ls p
found_at ls p l i h e before here =
    sym (position_or_len_is (λ q. alike q p) ls i l (omega (arith, h)) (λ k w. before k l w) (λ w. ap (λ q. alike q p) (sym e) ∙ here))

pub found_nowhere : (ls : List Sent) (p : Sent) → ((k : ℕ) (d : Sent) → k < length ls → alike (get_or ls k d) p ≡ false) → length ls ≡ place ls p
found_nowhere ls p before =
    sym (position_or_len_is (λ q. alike q p) ls (length ls) p (omega arith) (λ k w. before k p w) (λ w. absurd (omega (arith, w))))

-- the values of a row, by their places

below_none : (i : ℕ) → nat_lt i 0 ≡ false
below_none i = same_truth (nat_lt i 0) false (λ h. absurd (omega (arith, ltb-true i 0 h))) (λ h. absurd (true≢false (sym h)))

range_value : (f : ℕ → Bool) (a m i : ℕ) → get_or (map f (range_with_len a m)) i false ≡ (nat_lt i m && f (a + i))
range_value f a zero i = sym (ap (λ c. c && f (a + i)) (below_none i))
range_value f a (suc m) zero = let e : a ≡ a + 0 = omega arith in ap f e ∙ ap (λ c. c && f (a + 0)) (sym (lt-ltb 0 (suc m) (omega arith)))
range_value f a (suc m) (suc i) =
    let e : a + 1 + i ≡ a + suc i = omega arith in
    range_value f (a + 1) m i ∙ ap₂ (λ c k. c && f k) (lt_up i m) e

-- A place below the number of letters has the value of the letter after so many, and the others are false.
pub row_value_at : (n r i : ℕ) → get_or (row_values n r) i false ≡ (nat_lt i n && letter_in_row n r (i + 1))
row_value_at n r i = let e : 1 + i ≡ i + 1 = omega arith in range_value (letter_in_row n r) 1 n i ∙ ap (λ k. nat_lt i n && letter_in_row n r k) e

pub letter_there : (n r i : ℕ) (b : Bool) → i < n → b ≡ letter_in_row n r (i + 1) → b ≡ get_or (row_values n r) i false
letter_there n r i b h e = e ∙ sym (row_value_at n r i ∙ ap (λ c. c && letter_in_row n r (i + 1)) (lt-ltb i n h))

pub no_letter_there : (n r i : ℕ) → n ≤ i → false ≡ get_or (row_values n r) i false
no_letter_there n r i h = sym (row_value_at n r i ∙ ap (λ c. c && letter_in_row n r (i + 1)) (le-ltb i n h))
