-- The rows, one after the other.
use Rattle.std.proofs.Common.{◌≡◌, ℕ, suc, ◌+◌, ◌-◌, ◌<◌, ◌≤◌, ◌∷◌, ap, sym, ◌∙◌, Bool, true, false, arith}
use Rattle.std.specs.Prelude.{◌^◌, cond, filter}
use Rattle.std.specs.List.{range_with_len}
use Rattle.taut_con.specs.declared.answer.TautAnswer.TheVariants as a
use Rattle.taut_con.specs.Rows.{rows}
use Rattle.taut_con.specs.Answer.{answer_by}

-- What passes among all rows is what passes among those after the first i.
abbrev pub AreLeft : (ℕ → Bool) → ℕ → ℕ → Type 0
AreLeft f n i = filter f (rows n) ≡ filter f (range_with_len (i + 1) (2 ^ n - i))

next_row : (m i : ℕ) → i < m → range_with_len (i + 1) (m - i) ≡ (i + 1) ∷ range_with_len (i + 1 + 1) (m - (i + 1))
next_row m i h = let e : m - i ≡ suc (m - (i + 1)) = omega (arith, h) in ap (λ k. range_with_len (i + 1) k) e

pub row_passed : (f : ℕ → Bool) (n i : ℕ) → i < 2 ^ n → f (i + 1) ≡ false → AreLeft f n i → AreLeft f n (i + 1)
row_passed f n i h fails left =
    left ∙ ap (λ rs. filter f rs) (next_row (2 ^ n) i h) ∙ ap (λ b. cond b ((i + 1) ∷ filter f (range_with_len (i + 1 + 1) (2 ^ n - (i + 1)))) (filter f (range_with_len (i + 1 + 1) (2 ^ n - (i + 1))))) fails

pub row_found : (f : ℕ → Bool) (n i : ℕ) → i < 2 ^ n → f (i + 1) ≡ true → AreLeft f n i → a.No (i + 1) ≡ answer_by (filter f (rows n))
row_found f n i h passes left =
    sym (ap answer_by
    (left ∙ ap (λ rs. filter f rs) (next_row (2 ^ n) i h) ∙ ap (λ b. cond b ((i + 1) ∷ filter f (range_with_len (i + 1 + 1) (2 ^ n - (i + 1)))) (filter f (range_with_len (i + 1 + 1) (2 ^ n - (i + 1))))) passes))

pub past_rows : (f : ℕ → Bool) (n i : ℕ) → 2 ^ n ≤ i → AreLeft f n i → AreLeft f n (i + 1)
past_rows f n i h left = let over : 2 ^ n - i ≡ 0 = omega (arith, h) in let still : 2 ^ n - (i + 1) ≡ 0 = omega (arith, h) in left ∙ ap (λ k. filter f (range_with_len (i + 1) k)) over ∙ sym (ap (λ k. filter f (range_with_len (i + 1 + 1) k)) still)
