-- Tables of which a group of rows is written, row by row.
use Rattle.std.proofs.Common.{◌≡◌, ◌≢◌, ℕ, ◌+◌, ◌-◌, ◌*◌, ◌<◌, ◌≤◌, ap, mul_comm, mul-suc, sym, ◌∙◌, subst, arith, inl, inr}
use Rattle.std.proofs.lemmas.Bool.{cases_order, cases_lt}
use Rattle.world_truth.specs.declared.table.Table.{Table}
use Rattle.world_truth.specs.inside.Tables.{bits_in}
use Rattle.worlds.proofs.Marking.{apart_by}

-- From the row first on, so many rows have one property, by their places in the group, those after them still have another,
-- and the rows before the group are as they were.
pub record AreGrouped (P Q : ℕ → ℕ → Type 0) (first : ℕ) (old : Table) (count : ℕ) (new : Table) : Type 0 where
  pub done : (m : ℕ) → m < count → P m (bits_in new (first + m))
  pub rest : (m : ℕ) → count ≤ m → Q m (bits_in new (first + m))
  pub before : (r : ℕ) → r < first → bits_in new r ≡ bits_in old r

pub none_grouped : (P Q : ℕ → ℕ → Type 0) (first : ℕ) (old t : Table) → ((m : ℕ) → Q m (bits_in t (first + m))) → ((r : ℕ) → r < first → bits_in t r ≡ bits_in old r) → AreGrouped P Q first old 0 t
none_grouped P Q first old t h before = record { done = λ m l. absurd (omega (arith, l)); rest = λ m _. h m; before = before }

pub more_grouped : (P Q : ℕ → ℕ → Type 0) (first : ℕ) (old t u : Table) (count bits : ℕ) → AreGrouped P Q first old count t → bits_in u (first + count) ≡ bits → ((r : ℕ) → r ≢ first + count → bits_in u r ≡ bits_in t r) → P count bits →
    AreGrouped P Q first old (count + 1) u
more_grouped P Q first old t u count bits h here elsewhere p = record {
  done = λ m l. elim (cases_order m count) [
    | inl same ↦ subst (λ i. P i (bits_in u (first + i))) (sym same) (subst (P count) (sym here) p)
    | inr other ↦ (let apart : m ≢ count = λ same. apart_by m count same other in subst (P m) (sym (elsewhere (first + m) (λ same. apart (omega (arith, same))))) (h.done m (omega (arith, l, apart))))
  ];
  rest = λ m l. subst (Q m) (sym (elsewhere (first + m) (λ same. absurd (omega (arith, l, same))))) (h.rest m (omega (arith, l)));
  before = λ r l. elsewhere r (λ same. absurd (omega (arith, l, same))) ∙ h.before r l;
}

-- one more group of rows
pub one_group_more : (P : ℕ → ℕ → Type 0) (group n : ℕ) (t u : Table) → ((r : ℕ) → r < group * n → P r (bits_in t r)) → ((m : ℕ) → m < n → P (group * n + m) (bits_in u (group * n + m))) →
    ((r : ℕ) → r < group * n → bits_in u r ≡ bits_in t r) → (r : ℕ) → r < (group + 1) * n → P r (bits_in u r)
one_group_more P group n t u h g before r l = elim (cases_lt r (group * n)) [
  | inl less ↦ subst (P r) (sym (before r less)) (h r less)
  | inr more ↦
      (let next : (group + 1) * n ≡ group * n + n = mul_comm (group + 1) n ∙ ap (λ m. n * m) (omega arith) ∙ mul-suc n group ∙ omega (arith, mul_comm n group) in
      let is : group * n + (r - group * n) ≡ r = omega (arith, more) in
      subst (λ j. P j (bits_in u j)) is (g (r - group * n) (omega (arith, l, next, more))))
]
