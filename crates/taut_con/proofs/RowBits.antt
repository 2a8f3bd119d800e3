-- 64 rows at a time: what is true in each of them, by their bits.
use Rattle.std.proofs.Common.{◌≡◌, ℕ, zero, suc, ◌+◌, ◌<◌, ◌≤◌, List, length, get_or, take, ap, ap₂, sym, ◌∙◌, subst, Bool, true, false, arith, inl, inr}
use Rattle.std.specs.Prelude.{◌&&◌, ◌||◌, ◌^◌, filter}
use Rattle.std.specs.List.{list_any, list_all}
use Rattle.std.proofs.lemmas.List.{take_all}
use Rattle.std.proofs.lemmas.List.Folds.{list_all_more, list_any_more}
use Rattle.std.proofs.lemmas.Bool.{cases_lt}
use Rattle.bit_sets.specs.BitSets.{has, HasNone}
use Rattle.taut_con.specs.declared.answer.TautAnswer.TheVariants as a
use Rattle.taut_con.specs.Answer.{answer_by}
use Rattle.taut_con.specs.Rows.{rows}
use Rattle.taut_con.specs.Words.{AreRows}
use Rattle.taut_con.proofs.Searching.{AreLeft, row_passed, row_found, past_rows}

-- what is true in a row, put together

rows_and : (f g h : ℕ → Bool) (base a b c : ℕ) → ((r : ℕ) → h r ≡ (f r && g r)) → AreRows f base a → AreRows g base b → ((k : ℕ) → has c k ≡ (has a k && has b k)) → AreRows h base c
rows_and f g h base a b c e i j both k l = both k ∙ ap₂ ◌&&◌ (i k l) (j k l) ∙ sym (e (base + k))

rows_or : (f g h : ℕ → Bool) (base a b c : ℕ) → ((r : ℕ) → h r ≡ (f r || g r)) → AreRows f base a → AreRows g base b → ((k : ℕ) → has c k ≡ (has a k || has b k)) → AreRows h base c
rows_or f g h base a b c e i j either k l = either k ∙ ap₂ ◌||◌ (i k l) (j k l) ∙ sym (e (base + k))

-- one part more of a conjunction or a disjunction

pub rows_all_more : {X : Type 0} (f : ℕ → X → Bool) (xs : List X) (i : ℕ) (x : X) (base a b c : ℕ) → i < length xs → x ≡ get_or xs i x →
    AreRows (λ r. list_all (f r) (take i xs)) base a → AreRows (λ r. f r x) base b → ((k : ℕ) → has c k ≡ (has a k && has b k)) → AreRows (λ r. list_all (f r) (take (i + 1) xs)) base c
rows_all_more f xs i x base a b c l e h j both =
    rows_and (λ r. list_all (f r) (take i xs)) (λ r. f r x) (λ r. list_all (f r) (take (i + 1) xs)) base a b c
    (λ r. list_all_more (f r) xs i x l ∙ ap (λ y. list_all (f r) (take i xs) && f r y) (sym e)) h j both

pub rows_some_more : {X : Type 0} (f : ℕ → X → Bool) (xs : List X) (i : ℕ) (x : X) (base a b c : ℕ) → i < length xs → x ≡ get_or xs i x →
    AreRows (λ r. list_any (f r) (take i xs)) base a → AreRows (λ r. f r x) base b → ((k : ℕ) → has c k ≡ (has a k || has b k)) → AreRows (λ r. list_any (f r) (take (i + 1) xs)) base c
rows_some_more f xs i x base a b c l e h j either =
    rows_or (λ r. list_any (f r) (take i xs)) (λ r. f r x) (λ r. list_any (f r) (take (i + 1) xs)) base a b c
    (λ r. list_any_more (f r) xs i x l ∙ ap (λ y. list_any (f r) (take i xs) || f r y) (sym e)) h j either

pub rows_whole : {X : Type 0} (f : ℕ → List X → Bool) (xs : List X) (i base bits : ℕ) → length xs ≤ i → AreRows (λ r. f r (take i xs)) base bits → AreRows (λ r. f r xs) base bits
rows_whole f xs i base bits l h k low = h k low ∙ ap (f (base + k)) (take_all i xs l)

-- 64 rows more, in none of which the function is true

pub rows_passed : (f : ℕ → Bool) (n i m : ℕ) → ((k : ℕ) → k < m → i + k < 2 ^ n → f (i + 1 + k) ≡ false) → AreLeft f n i → AreLeft f n (i + m)
rows_passed f n i zero none left = let e : i ≡ i + 0 = omega arith in subst (AreLeft f n) e left
rows_passed f n i (suc m) none left =
    let e : i + m + 1 ≡ i + suc m = omega arith in
    let before : AreLeft f n (i + m) = rows_passed f n i m (λ k l. none k (omega (arith, l))) left in
    subst (AreLeft f n) e (elim (cases_lt (i + m) (2 ^ n)) [
      | inl less ↦ (let turn : i + 1 + m ≡ i + m + 1 = omega arith in row_passed f n (i + m) less (sym (ap f turn) ∙ none m (omega arith) less) before)
      | inr more ↦ past_rows f n (i + m) more before
    ])

-- The least of the bits is the first row.
pub first_row : (f : ℕ → Bool) (n i bits first : ℕ) → AreRows f (i + 1) bits → AreLeft f n i → (first < 64 → has bits first ≡ true) → HasNone first bits → first < 64 → i + first < 2 ^ n → a.No (i + first + 1) ≡ answer_by (filter f (rows n))
first_row f n i bits first h left here before low within =
    let turn : i + 1 + first ≡ i + first + 1 = omega arith in
    row_found f n (i + first) within (sym (ap f turn) ∙ sym (h first low) ∙ here low)
    (rows_passed f n i first (λ k l w. sym (h k (omega (arith, l, low))) ∙ before k l) left)

pub no_row : (f : ℕ → Bool) (n i bits first : ℕ) → AreRows f (i + 1) bits → AreLeft f n i → HasNone first bits → (first < 64 → 2 ^ n ≤ i + first) → AreLeft f n (i + 64)
no_row f n i bits first h left before past = rows_passed f n i 64 (λ k l w. sym (h k l) ∙ before k (below k l w)) left
  where
    below : (k : ℕ) → k < 64 → i + k < 2 ^ n → k < first
    below k l w = elim (cases_lt k first) [
      | inl less ↦ less
      | inr more ↦ absurd (omega (arith, l, w, more, past (omega (arith, l, more))))
    ]
