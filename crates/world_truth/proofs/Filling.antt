-- Tables that are written row by row.
use Rattle.std.proofs.Common.{◌≡◌, ◌≢◌, ℕ, zero, suc, ◌+◌, ◌*◌, ◌<◌, ◌≤◌, refl, ◌∙◌, subst, sym, arith, mul-suc, inl, inr}
use Rattle.std.proofs.lemmas.Bool.{cases_order}
use Rattle.world_truth.specs.declared.table.Table.{Table}
use Rattle.world_truth.specs.inside.Tables.{bits_in}
use Rattle.worlds.proofs.Marking.{apart_by}

-- In the first rows, so many, the bits are as the property says, and the other rows are as they were.
pub record AreFilled (P : ℕ → ℕ → Type 0) (old : Table) (count : ℕ) (new : Table) : Type 0 where
  pub done : (r : ℕ) → r < count → P r (bits_in new r)
  pub rest : (r : ℕ) → count ≤ r → bits_in new r ≡ bits_in old r

pub none_filled : (P : ℕ → ℕ → Type 0) (old : Table) → AreFilled P old 0 old
none_filled P old = record { done = λ r l. absurd (omega (arith, l)); rest = λ r l. refl }

pub more_filled : (P : ℕ → ℕ → Type 0) (old t u : Table) (count bits : ℕ) → AreFilled P old count t → bits_in u count ≡ bits → ((r : ℕ) → r ≢ count → bits_in u r ≡ bits_in t r) → P count bits → AreFilled P old (count + 1) u
more_filled P old t u count bits h here elsewhere p = record {
  done = λ r l. elim (cases_order r count) [
    | inl same ↦ subst (λ i. P i (bits_in u i)) (sym same) (subst (P count) (sym here) p)
    | inr other ↦ (let apart : r ≢ count = λ same. apart_by r count same other in subst (P r) (sym (elsewhere r apart)) (h.done r (omega (arith, l, apart))))
  ];
  rest = λ r l. elsewhere r (λ same. absurd (omega (arith, l, same))) ∙ h.rest r (omega (arith, l));
}

-- a group of rows doesn't begin before the row that is written from it
pub not_before : (r n : ℕ) → 0 < n → r ≤ r * n
not_before r zero h = absurd (omega (arith, h))
not_before r (suc n) h = omega (arith, mul-suc r n)
