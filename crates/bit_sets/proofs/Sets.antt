-- Sets of places by their bits.
use Rattle.std.proofs.Common.{◌≡◌, ◌≢◌, ℕ, zero, suc, ◌+◌, ◌-◌, ◌^◌, ◌<◌, ◌≤◌, min, max, Bool, true, false, not, refl, sym, ap, ◌∙◌, subst, arith, w64, inl, inr}
use Rattle.std.specs.Prelude.{◌&&◌, ◌||◌, ◌==◌, ◌%◌, ◌*◌, ◌/◌, nat_lt, nat_le, bit_and, bit_or, bit_xor}
use lib.Count.{count_trailing_zeros}
use Rattle.std.specs.Int.{bit_at, bit_not, trailing_ones, trailing_zeros}
use Rattle.std.proofs.lemmas.Nat.Bits.{bit_at_cat_low, bit_at_cat_high, bit_at_and, bit_at_or, bit_at_xor, bit_at_not, bit_at-lt, bit_at-zero, bit_at_ones, bit_at_ones_above, bit_at_mask_inside, bit_at_mask_below, bit_at-trailing_ones, bit_at-trailing_zeros, bit_at_set_same, bit_at_set_other}
use Rattle.std.proofs.lemmas.Nat.{shl_whole, pow_pos, div-add-mod'}
use Rattle.std.proofs.Math.Nat.{pow-suc}
use Rattle.std.proofs.Math.Pow.{pow_mono}
use Rattle.std.proofs.lemmas.Bool.{cases_lt, lt-ltb, le-ltb, lt-leb, le-leb}
use Rattle.bit_sets.specs.BitSets.{has, HasAll, LacksOne, HasOne, HasNone, are_alike}

bit_cases : (P : ℕ → Type 0) → P 0 → P 1 → (n : ℕ) → n < 2 → P n
bit_cases P p q zero h = p
bit_cases P p q (suc zero) h = q
bit_cases P p q (suc (suc n)) h = absurd (omega (arith, h))

two_bits : (P : ℕ → ℕ → Type 0) → P 0 0 → P 0 1 → P 1 0 → P 1 1 → (a b k : ℕ) → P (bit_at a k) (bit_at b k)
two_bits P p q r s a b k =
    bit_cases (λ m. P m (bit_at b k)) (bit_cases (P 0) p q (bit_at b k) (bit_at-lt b k)) (bit_cases (P 1) r s (bit_at b k) (bit_at-lt b k)) (bit_at a k) (bit_at-lt a k)

-- the operations
pub has_complement : (a k : ℕ) → a < 2 ^ 64 → k < 64 → has (bit_not w64 a) k ≡ not (has a k)
has_complement a k fits low = ap (λ n. n == 1) (bit_at_not w64 a k fits low) ∙ bit_cases (λ n. ((1 - n) == 1) ≡ not (n == 1)) refl refl (bit_at a k) (bit_at-lt a k)

pub has_both : (a b k : ℕ) → has (bit_and a b) k ≡ (has a k && has b k)
has_both a b k = ap (λ n. n == 1) (bit_at_and a b k) ∙ two_bits (λ m n. (min m n == 1) ≡ ((m == 1) && (n == 1))) refl refl refl refl a b k

pub has_either : (a b k : ℕ) → has (bit_or a b) k ≡ (has a k || has b k)
has_either a b k = ap (λ n. n == 1) (bit_at_or a b k) ∙ two_bits (λ m n. (max m n == 1) ≡ ((m == 1) || (n == 1))) refl refl refl refl a b k

pub has_one : (a b k : ℕ) → has (bit_xor a b) k ≡ not (are_alike (has a k) (has b k))
has_one a b k = ap (λ n. n == 1) (bit_at_xor a b k) ∙ two_bits (λ m n. ((m + n) % 2 == 1) ≡ not (are_alike (m == 1) (n == 1))) refl refl refl refl a b k

with_true : (b c : Bool) → c ≡ true → true ≡ (b || c)
with_true true c e = refl
with_true false c e = sym e

pub set_here : (a k : ℕ) (is_in : Bool) → k < 64 → is_in ≡ true → has (bit_or a (1 * 2 ^ k % 2 ^ 64)) k ≡ (has a k || is_in)
set_here a k is_in low e = ap (λ n. n == 1) (bit_at_set_same w64 a k low) ∙ with_true (has a k) is_in e

pub set_elsewhere : (a k j : ℕ) → k < 64 → j ≢ k → has (bit_or a (1 * 2 ^ k % 2 ^ 64)) j ≡ has a j
set_elsewhere a k j low apart = ap (λ n. n == 1) (bit_at_set_other w64 a k low j apart)

pub full_has : (k : ℕ) → k < 64 → has (2 ^ 64 - 1) k ≡ true
full_has k low = ap (λ n. n == 1) (bit_at_ones 64 k low)

pub empty_has : (k : ℕ) → has 0 k ≡ false
empty_has k = ap (λ n. n == 1) (bit_at-zero k)

full_ones : trailing_ones w64 (2 ^ 64 - 1) ≡ 64
unfolding count_trailing_zeros
full_ones = refl

empty_zeros : trailing_zeros w64 0 ≡ 64
unfolding count_trailing_zeros
empty_zeros = refl

full_is : (a : ℕ) → a < 2 ^ 64 → 2 ^ 64 ≤ a + 1 → a ≡ 2 ^ 64 - 1
full_is a fits more = omega (arith, fits, more)

pub ones_all : (a count : ℕ) → a < 2 ^ 64 → count ≤ 64 → count ≤ trailing_ones w64 a → HasAll count a
ones_all a count fits most h k l = elim (cases_lt (a + 1) (2 ^ 64)) [
  | inl less ↦ ap (λ n. n == 1) ((bit_at-trailing_ones w64 a less).2 k (omega (arith, h, l)))
  | inr more ↦ subst (λ n. has n k ≡ true) (sym (full_is a fits more)) (full_has k (omega (arith, most, l)))
]

pub ones_lack : (a count : ℕ) → a < 2 ^ 64 → count ≤ 64 → trailing_ones w64 a < count → LacksOne count a
ones_lack a count fits most h = elim (cases_lt (a + 1) (2 ^ 64)) [
  | inl less ↦ (let t = bit_at-trailing_ones w64 a less in (trailing_ones w64 a, h, ap (λ n. n == 1) t.1))
  | inr more ↦ absurd (omega (arith, most, full_ones, subst (λ n. trailing_ones w64 n < count) (full_is a fits more) h))
]

pub zeros_one : (a count : ℕ) → a < 2 ^ 64 → count ≤ 64 → trailing_zeros w64 a < count → HasOne count a
zeros_one a count fits most h = elim (cases_lt 0 a) [
  | inl some ↦ (let t = bit_at-trailing_zeros w64 a some fits in (trailing_zeros w64 a, h, ap (λ n. n == 1) t.1))
  | inr none ↦ absurd (omega (arith, most, empty_zeros, subst (λ n. trailing_zeros w64 n < count) (zero_is a none) h))
]
  where
    zero_is : (a : ℕ) → a ≤ 0 → a ≡ 0
    zero_is a h = omega (arith, h)

pub zeros_none : (a count : ℕ) → a < 2 ^ 64 → count ≤ 64 → count ≤ trailing_zeros w64 a → HasNone count a
zeros_none a count fits most h k l = elim (cases_lt 0 a) [
  | inl some ↦ ap (λ n. n == 1) ((bit_at-trailing_zeros w64 a some fits).2 k (omega (arith, h, l)))
  | inr none ↦ subst (λ n. has n k ≡ false) (sym (omega (arith, none))) (empty_has k)
]

-- Places are moved by a shift, which leaves out what doesn't fit.
pub moved_has : (a by k : ℕ) → k < 64 → has (a * 2 ^ by % 2 ^ 64) k ≡ (nat_le by k && has a (k - by))
moved_has a by k low =
    let m = a * 2 ^ by in
    let fits : bit_at (m % 2 ^ 64) k ≡ bit_at m k = sym (bit_at_cat_low (m / 2 ^ 64) 64 (m % 2 ^ 64) k low) ∙ ap (λ n. bit_at n k) (omega (arith, div-add-mod' m (2 ^ 64))) in
    let whole : bit_at m k ≡ bit_at (m + 0) k = ap (λ n. bit_at n k) (omega arith) in
    ap (λ n. n == 1) (fits ∙ whole) ∙ elim (cases_lt k by) [
      | inl l ↦ ap (λ n. n == 1) (bit_at_cat_low a by 0 k l ∙ bit_at-zero k) ∙ sym (ap (λ b. b && has a (k - by)) (lt-leb by k l))
      | inr l ↦ ap (λ n. n == 1) (bit_at_cat_high a by 0 k (pow_pos by) l) ∙ sym (ap (λ b. b && has a (k - by)) (le-leb by k l))
    ]

-- The places before a place, and those after it, are the bits below and above its own.

pub shift_some : (k : ℕ) → k < 64 → 1 ≤ 1 * 2 ^ k % 2 ^ 64
shift_some k low = omega (arith, shl_whole 1 1 k 64 (omega arith) (omega (arith, low)), pow_pos k)

pub before_has : (k place : ℕ) → place < 64 → has (1 * 2 ^ place % 2 ^ 64 - 1) k ≡ nat_lt k place
before_has k place low =
    let mask : 1 * 2 ^ place % 2 ^ 64 - 1 ≡ 2 ^ place - 1 = omega (arith, shl_whole 1 1 place 64 (omega arith) (omega (arith, low))) in
    ap (λ n. has n k) mask ∙ elim (cases_lt k place) [
      | inl l ↦ ap (λ n. n == 1) (bit_at_ones place k l) ∙ sym (lt-ltb k place l)
      | inr l ↦ ap (λ n. n == 1) (bit_at_ones_above place k l) ∙ sym (le-ltb k place l)
    ]

pub after_has : (k place : ℕ) → place < 64 → k < 64 → has ((2 ^ 64 - 2) * 2 ^ place % 2 ^ 64) k ≡ nat_lt place k
after_has k place low fits =
    let most : suc place ≤ 64 = omega (arith, low) in
    let mask : (2 ^ 64 - 2) * 2 ^ place % 2 ^ 64 ≡ 2 ^ 64 - 2 ^ suc place = omega (arith, pow-suc 2 place, pow_pos place, pow_mono most) in
    ap (λ n. has n k) mask ∙ elim (cases_lt place k) [
      | inl l ↦ ap (λ n. n == 1) (bit_at_mask_inside (suc place) 64 k (omega (arith, l)) fits) ∙ sym (lt-ltb place k l)
      | inr l ↦ ap (λ n. n == 1) (bit_at_mask_below (suc place) 64 k (omega (arith, l))) ∙ sym (le-ltb place k l)
    ]

-- The least place in a set is as many places up as zeros trail.

pub first_has : (a : ℕ) → a < 2 ^ 64 → trailing_zeros w64 a < 64 → has a (trailing_zeros w64 a) ≡ true
first_has a fits low = elim (cases_lt 0 a) [
  | inl some ↦ ap (λ n. n == 1) ((bit_at-trailing_zeros w64 a some fits).1)
  | inr none ↦ absurd (omega (arith, empty_zeros, subst (λ n. trailing_zeros w64 n < 64) (zero_is a none) low))
]
  where
    zero_is : (a : ℕ) → a ≤ 0 → a ≡ 0
    zero_is a h = omega (arith, h)

pub first_before : (a : ℕ) → a < 2 ^ 64 → HasNone (trailing_zeros w64 a) a
first_before a fits k l = elim (cases_lt 0 a) [
  | inl some ↦ ap (λ n. n == 1) ((bit_at-trailing_zeros w64 a some fits).2 k l)
  | inr none ↦ subst (λ n. has n k ≡ false) (sym (omega (arith, none))) (empty_has k)
]
