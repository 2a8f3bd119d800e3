-- Tables that are written from the last row on, from what stands in the first rows.
use Rattle.std.proofs.Common.{◌≡◌, ◌≢◌, ℕ, ◌+◌, ◌-◌, ◌<◌, ◌≤◌, subst, sym, arith, inl, inr}
use Rattle.std.specs.Prelude.{◌/◌}
use Rattle.std.proofs.Math.Nat.{div-le_self, mod-le}
use Rattle.std.proofs.lemmas.Bool.{cases_order}
use Rattle.world_truth.specs.declared.table.Table.{Table}
use Rattle.world_truth.specs.inside.Digits.{digit_of}
use Rattle.world_truth.specs.inside.Tables.{bits_in}
use Rattle.worlds.proofs.Marking.{apart_by}

-- Of so many rows the last ones, as many as are counted, have one property, and those before them still have another.
pub record AreDealt (P Q : ℕ → ℕ → Type 0) (rows count : ℕ) (t : Table) : Type 0 where
  pub done : (r : ℕ) → rows ≤ r + count → r < rows → P r (bits_in t r)
  pub rest : (r : ℕ) → r + count < rows → Q r (bits_in t r)

pub none_dealt : (P Q : ℕ → ℕ → Type 0) (rows : ℕ) (t : Table) → ((r : ℕ) → r < rows → Q r (bits_in t r)) → AreDealt P Q rows 0 t
none_dealt P Q rows t h = record { done = λ r l m. absurd (omega (arith, l, m)); rest = λ r l. h r (omega (arith, l)) }

pub more_dealt : (P Q : ℕ → ℕ → Type 0) (rows count bits : ℕ) (t u : Table) → count < rows → AreDealt P Q rows count t → bits_in u (rows - 1 - count) ≡ bits → ((r : ℕ) → r ≢ rows - 1 - count → bits_in u r ≡ bits_in t r) → P (rows - 1 - count) bits →
    AreDealt P Q rows (count + 1) u
more_dealt P Q rows count bits t u some h here elsewhere p = record {
  done = λ r l m. elim (cases_order r (rows - 1 - count)) [
    | inl same ↦ subst (λ i. P i (bits_in u i)) (sym same) (subst (P (rows - 1 - count)) (sym here) p)
    | inr other ↦ (let apart : r ≢ rows - 1 - count = λ same. apart_by r (rows - 1 - count) same other in subst (P r) (sym (elsewhere r apart)) (h.done r (omega (arith, l, m, some, apart)) m))
  ];
  rest = λ r l. subst (Q r) (sym (elsewhere r (λ same. absurd (omega (arith, l, same, some))))) (h.rest r (omega (arith, l)));
}

-- a digit of the row that is next is that of a row before those that are done
pub digit_before : (n stride rows count : ℕ) → count < rows → digit_of n stride (rows - 1 - count) + count < rows
digit_before n stride rows count some =
    let row = rows - 1 - count in omega (arith, some, mod-le (row / stride) n, div-le_self row stride)
