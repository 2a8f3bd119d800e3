-- Sets that are built place by place.
use Rattle.std.proofs.Common.{◌≡◌, ◌≢◌, ℕ, ◌+◌, ◌<◌, ◌≤◌, Bool, false, sym, ap, ◌∙◌, subst, arith, ◌⊎◌, inl, inr}
use Rattle.std.specs.Prelude.{◌||◌}
use Rattle.std.proofs.lemmas.Bool.{cases_order}
use Rattle.bit_sets.specs.BitSets.{has}
use Rattle.worlds.specs.inside.Extensions.{IsExtension}
use Rattle.bit_sets.proofs.Sets.{empty_has}

-- Of the first places, so many, the set has those of which the function is true, and it has no further ones.
pub record IsMarked (f : ℕ → Bool) (count : ℕ) (bits : ℕ) : Type 0 where
  pub below : (k : ℕ) → k < count → has bits k ≡ f k
  pub above : (k : ℕ) → count ≤ k → has bits k ≡ false

-- numbers of which one is less than the other are not the same
pub apart_by : (j n : ℕ) → j ≡ n → (j < n) ⊎ (n < j) → ⊥
apart_by j n same (inl h) = absurd (omega (arith, same, h))
apart_by j n same (inr h) = absurd (omega (arith, same, h))

pub none_marked : (f : ℕ → Bool) → IsMarked f 0 0
none_marked f = record { below = λ k l. absurd (omega (arith, l)); above = λ k l. empty_has k }

pub marked_extends : (f : ℕ → Bool) (columns count bits : ℕ) → columns ≤ count → IsMarked f count bits → IsExtension columns f bits
marked_extends f columns count bits l m c n _ = m.below c (omega (arith, l, n))

pub marked_more : (f : ℕ → Bool) (count a b : ℕ) (v : Bool) → IsMarked f count a → has b count ≡ (has a count || v) → ((k : ℕ) → k ≢ count → has b k ≡ has a k) → v ≡ f count → IsMarked f (count + 1) b
marked_more f count a b v m here elsewhere e = record {
  below = λ k l. elim (cases_order k count) [
    | inl same ↦ subst (λ j. has b j ≡ f j) (sym same) (here ∙ ap (λ c. c || v) (m.above count (omega arith)) ∙ e)
    | inr other ↦ (let apart : k ≢ count = λ same. apart_by k count same other in elsewhere k apart ∙ m.below k (omega (arith, l, apart)))
  ];
  above = λ k l. elsewhere k (λ same. absurd (omega (arith, l, same))) ∙ m.above k (omega (arith, l));
}
