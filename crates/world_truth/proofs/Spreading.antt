-- Sets that are spread over columns, run by run.
use Rattle.std.proofs.Common.{◌≡◌, ℕ, ◌+◌, ◌-◌, ◌<◌, Bool, true, false, ap, ap₂, sym, refl, ◌∙◌, arith, inl, inr}
use Rattle.std.specs.Prelude.{◌/◌, ◌%◌, ◌&&◌, ◌||◌, ◌==◌, nat_lt, nat_le}
use Rattle.std.proofs.Math.Nat.{div-eq-sub-div, div-mul-le_self, div-zero, zero-mod}
use Rattle.std.proofs.lemmas.Nat.{le-div}
use Rattle.std.proofs.lemmas.Bool.{cases_lt, cases_order, lt-ltb, le-ltb, le-leb, lt-leb, eq-eqb, ne_eqb}
use native.Mathlib.Nat.{div-eq_of_lt}
use Rattle.bit_sets.specs.BitSets.{has}
use Rattle.world_truth.specs.inside.Digits.{digit_of}

left_only : (a b : Bool) → b ≡ false → (a || b) ≡ a
left_only true b e = refl
left_only false b e = e

and_false : (a : Bool) → (a && false) ≡ false
and_false true = refl
and_false false = refl

and_true : (a : Bool) → (a && true) ≡ a
and_true true = refl
and_true false = refl

-- one more run of this length stands before those that are done
pub one_run_more : (f : ℕ → Bool) (stride runs done : ℕ) (old new : ℕ) (v : Bool) → 0 < stride → done < runs → ((c : ℕ) → c < 64 → c / stride < done → has old c ≡ f (runs - done + c / stride)) → v ≡ f (runs - 1 - done) →
    ((c : ℕ) → c < 64 → has new c ≡ ((nat_le stride c && has old (c - stride)) || (v && nat_lt c stride))) → (c : ℕ) → c < 64 → c / stride < done + 1 → has new c ≡ f (runs - (done + 1) + c / stride)
one_run_more f stride runs done old new v long some h e made c low l = made c low ∙ elim (cases_lt c stride) [
  | inl less ↦
      (let none : c / stride ≡ 0 = div-eq_of_lt less in
      ap₂ (λ s t. (s && has old (c - stride)) || (v && t)) (lt-leb stride c less) (lt-ltb c stride less) ∙ and_true v ∙ e ∙ ap f (omega (arith, none)))
  | inr more ↦
      (let next : c / stride ≡ (c - stride) / stride + 1 = div-eq-sub-div long more in
      ap₂ (λ s t. (s && has old (c - stride)) || (v && t)) (le-leb stride c more) (le-ltb c stride more) ∙ left_only (has old (c - stride)) (v && false) (and_false v)
      ∙ h (c - stride) (omega (arith, low)) (omega (arith, l, next)) ∙ ap f (omega (arith, next, some, l)))
]

-- a column is in one of the runs
pub in_runs : (c columns stride : ℕ) → 0 < stride → c < columns → c / stride < columns / stride + 1
in_runs c columns stride long l = omega (arith, le-div (c / stride) columns stride long (omega (arith, div-mul-le_self c stride, l)))

-- a digit whose place value is no number, or greater than each column, is 0
pub no_digit : (n stride c : ℕ) → stride ≡ 0 → digit_of n stride c ≡ 0
no_digit n stride c e = ap (λ s. digit_of n s c) e ∙ ap (λ q. q % n) (div-zero c) ∙ zero-mod n

pub no_place : (n stride c : ℕ) → c < stride → digit_of n stride c ≡ 0
no_place n stride c l = ap (λ q. q % n) (div-eq_of_lt l) ∙ zero-mod n

-- what is said of the digits up to one place is joined to what is said of that place
pub one_place_more : (q place : ℕ) (r : ℕ → Bool) (new old said here : Bool) → new ≡ (old || (said && here)) → old ≡ (nat_lt q place && r q) → said ≡ r place → here ≡ (q == place) → new ≡ (nat_lt q (place + 1) && r q)
one_place_more q place r new old said here made e f g = made ∙ ap₂ (λ a b. a || (said && b)) e g ∙ elim (cases_order q place) [
  | inl same ↦
      ap₂ (λ a b. (a && r q) || (said && b)) (le-ltb q place (omega (arith, same))) (eq-eqb q place same) ∙ and_true said ∙ f ∙ ap r (sym same) ∙ sym (ap (λ a. a && r q) (lt-ltb q (place + 1) (omega (arith, same))))
  | inr (inl less) ↦
      ap₂ (λ a b. (a && r q) || (said && b)) (lt-ltb q place less) (ne_eqb q place (λ same. absurd (omega (arith, less, same)))) ∙ left_only (r q) (said && false) (and_false said) ∙ sym (ap (λ a. a && r q) (lt-ltb q (place + 1) (omega (arith, less))))
  | inr (inr more) ↦
      ap₂ (λ a b. (a && r q) || (said && b)) (le-ltb q place (omega (arith, more))) (ne_eqb q place (λ same. absurd (omega (arith, more, same)))) ∙ and_false said ∙ sym (ap (λ a. a && r q) (le-ltb q (place + 1) (omega (arith, more))))
]
