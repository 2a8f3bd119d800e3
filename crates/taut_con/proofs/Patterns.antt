-- The values of a letter in 64 rows. Where it changes its value each 32 rows or oftener, they are one pattern, whatever the
-- first of the rows is; where it changes less often, they are one value.
use Rattle.std.proofs.Common.{◌≡◌, ℕ, zero, suc, ◌+◌, ◌-◌, ◌*◌, ◌<◌, ◌≤◌, refl, ap, sym, ◌∙◌, subst, Bool, true, false, arith, inl, inr}
use Rattle.std.specs.Prelude.{◌/◌, ◌%◌, ◌^◌, ◌==◌, ◌&&◌, not}
use Rattle.std.proofs.lemmas.Bool.{and_parts, cases_lt}
use Rattle.std.proofs.Math.Nat.{div-div-eq-div-mul}
use Rattle.std.proofs.Math.Pow.{pow-add, pow_mono}
use Rattle.bit_sets.specs.BitSets.{has}
use Rattle.taut_con.specs.Rows.{letter_in_row}

abbrev both_or_neither : Bool → Bool → Bool
both_or_neither true b = b
both_or_neither false b = not b

one_value : (a b : Bool) → both_or_neither a b ≡ true → a ≡ b
one_value true true h = refl
one_value true false h = sym h
one_value false true h = h
one_value false false h = refl

-- The last n bits of the pattern are those of a letter that changes its value each `2 ^ m` rows.
abbrev is_pattern : ℕ → ℕ → ℕ → Bool
is_pattern bits m zero = true
is_pattern bits m (suc n) = is_pattern bits m n && both_or_neither (has bits n) ((n / 2 ^ m) % 2 == 0)

pattern_at : (bits m n k : ℕ) → is_pattern bits m n ≡ true → k < n → has bits k ≡ ((k / 2 ^ m) % 2 == 0)
pattern_at bits m zero k h l = absurd (omega (arith, l))
pattern_at bits m (suc n) k h l =
    let d = and_parts (is_pattern bits m n) (both_or_neither (has bits n) ((n / 2 ^ m) % 2 == 0)) h in
    elim (cases_lt k n) [
      | inl less ↦ pattern_at bits m n k d.0 less
      | inr more ↦ subst (λ j. has bits j ≡ ((j / 2 ^ m) % 2 == 0)) (omega (arith, l, more)) (one_value _ _ d.1)
    ]

in_pattern : (n base letter m bits k : ℕ) → n - letter ≡ m → is_pattern bits m 64 ≡ true → ((base + k - 1) / 2 ^ m) % 2 ≡ (k / 2 ^ m) % 2 → k < 64 → has bits k ≡ letter_in_row n (base + k) letter
in_pattern n base letter m bits k e p same l =
    pattern_at bits m 64 k p l ∙ sym (ap (λ j. j == 0) same) ∙ sym (ap (λ j. ((base + k - 1) / 2 ^ j) % 2 == 0) e)

pub in_word_0 : (n base letter k : ℕ) → n - letter ≡ 0 → base % 64 ≡ 1 → k < 64 → has 6148914691236517205 k ≡ letter_in_row n (base + k) letter
in_word_0 n base letter k e a l = in_pattern n base letter 0 6148914691236517205 k e refl (let h : ((base + k - 1) / 1) % 2 ≡ (k / 1) % 2 = omega (arith, a) in h) l

pub in_word_1 : (n base letter k : ℕ) → n - letter ≡ 1 → base % 64 ≡ 1 → k < 64 → has 3689348814741910323 k ≡ letter_in_row n (base + k) letter
in_word_1 n base letter k e a l = in_pattern n base letter 1 3689348814741910323 k e refl (let h : ((base + k - 1) / 2) % 2 ≡ (k / 2) % 2 = omega (arith, a) in h) l

pub in_word_2 : (n base letter k : ℕ) → n - letter ≡ 2 → base % 64 ≡ 1 → k < 64 → has 1085102592571150095 k ≡ letter_in_row n (base + k) letter
in_word_2 n base letter k e a l = in_pattern n base letter 2 1085102592571150095 k e refl (let h : ((base + k - 1) / 4) % 2 ≡ (k / 4) % 2 = omega (arith, a) in h) l

pub in_word_3 : (n base letter k : ℕ) → n - letter ≡ 3 → base % 64 ≡ 1 → k < 64 → has 71777214294589695 k ≡ letter_in_row n (base + k) letter
in_word_3 n base letter k e a l = in_pattern n base letter 3 71777214294589695 k e refl (let h : ((base + k - 1) / 8) % 2 ≡ (k / 8) % 2 = omega (arith, a) in h) l

pub in_word_4 : (n base letter k : ℕ) → n - letter ≡ 4 → base % 64 ≡ 1 → k < 64 → has 281470681808895 k ≡ letter_in_row n (base + k) letter
in_word_4 n base letter k e a l = in_pattern n base letter 4 281470681808895 k e refl (let h : ((base + k - 1) / 16) % 2 ≡ (k / 16) % 2 = omega (arith, a) in h) l

pub in_word_5 : (n base letter k : ℕ) → n - letter ≡ 5 → base % 64 ≡ 1 → k < 64 → has 4294967295 k ≡ letter_in_row n (base + k) letter
in_word_5 n base letter k e a l = in_pattern n base letter 5 4294967295 k e refl (let h : ((base + k - 1) / 32) % 2 ≡ (k / 32) % 2 = omega (arith, a) in h) l

-- 64 rows stand in one block of 64 rows or more.
same_block : (m base k : ℕ) → base % 64 ≡ 1 → k < 64 → (base - 1) / 2 ^ (6 + m) ≡ (base + k - 1) / 2 ^ (6 + m)
same_block m base k a l =
    let power : 2 ^ (6 + m) ≡ 64 * 2 ^ m = pow-add 2 6 m in
    let one : (base - 1) / 64 ≡ (base + k - 1) / 64 = omega (arith, a, l) in
    ap (λ p. (base - 1) / p) power ∙ sym (div-div-eq-div-mul (base - 1) 64 (2 ^ m)) ∙ ap (λ q. q / 2 ^ m) one ∙ div-div-eq-div-mul (base + k - 1) 64 (2 ^ m) ∙ sym (ap (λ p. (base + k - 1) / p) power)

pub one_in_word : (n base letter k : ℕ) → 6 ≤ n - letter → base % 64 ≡ 1 → k < 64 → letter_in_row n base letter ≡ letter_in_row n (base + k) letter
one_in_word n base letter k h a l =
    let e : n - letter ≡ 6 + (n - letter - 6) = omega (arith, h) in
    ap (λ j. ((base - 1) / 2 ^ j) % 2 == 0) e ∙ ap (λ q. q % 2 == 0) (same_block (n - letter - 6) base k a l) ∙ sym (ap (λ j. ((base + k - 1) / 2 ^ j) % 2 == 0) e)

pub few_rows : (n : ℕ) → n ≤ 16 → 2 ^ n ≤ 65536
few_rows n h = let p : 2 ^ n ≤ 2 ^ 16 = pow_mono h in p
