-- Each list of truth values is a row of the table.
use Rattle.std.proofs.Common.{◌≡◌, ℕ, zero, suc, ◌+◌, ◌-◌, ◌*◌, ◌<◌, ◌≤◌, List, [], ◌∷◌, length, map, refl, ap, ap₂, sym, ◌∙◌, subst, Bool, true, false, Contains, arith, inl, inr, ◌⊎◌}
use Rattle.std.specs.Prelude.{◌/◌, ◌%◌, ◌^◌, ◌==◌, cond}
use Rattle.std.specs.List.{range_with_len}
use Rattle.std.proofs.lemmas.Nat.{shr_high, mod-mul-add, pow_below}
use native.Mathlib.Nat.{pow-suc, mul_assoc, add-mul}
use Rattle.deriv_laws.proofs.Members.{contains_here, contains_there}
use Rattle.taut_con.specs.Rows.{letter_in_row, row_values, rows}

-- The number of the row with these values, from 0.
abbrev pub row_of : List Bool → ℕ
row_of [] = 0
row_of (b ∷ bs) = cond b 0 (2 ^ length bs) + row_of bs

below_one : (b : Bool) (x lo : ℕ) → lo < x → cond b 0 x + lo < x * 2
below_one true x lo h = omega (arith, h)
below_one false x lo h = omega (arith, h)

pub row_below : (bs : List Bool) → row_of bs < 2 ^ length bs
row_below [] = omega arith
row_below (b ∷ bs) = subst (λ (m : ℕ). cond b 0 (2 ^ length bs) + row_of bs < m) (sym (pow-suc 2 (length bs))) (below_one b (2 ^ length bs) (row_of bs) (row_below bs))

-- a block of rows has two halves

doubled : (q m : ℕ) → q * 2 ^ suc m ≡ q * 2 ^ m * 2
doubled q m = ap (λ k. q * k) (pow-suc 2 m) ∙ sym (mul_assoc q (2 ^ m) 2)

halved : (q c x : ℕ) → (q + q + c) * x ≡ q * x * 2 + c * x
halved q c x = let e : (q + q + c) * x ≡ (q + q) * x + c * x = add-mul (q + q) c x in let h : (q + q) * x ≡ q * x + q * x = add-mul q q x in omega (arith, e, h)

bit : (b : Bool) (x : ℕ) → cond b 0 1 * x ≡ cond b 0 x
bit true x = omega arith
bit false x = omega arith

split : (q m lo : ℕ) (b : Bool) → q * 2 ^ suc m + (cond b 0 (2 ^ m) + lo) ≡ (q + q + cond b 0 1) * 2 ^ m + lo
split q m lo b = omega (arith, doubled q m, halved q (cond b 0 1) (2 ^ m), bit b (2 ^ m))

parity : (q : ℕ) (b : Bool) → ((q + q + cond b 0 1) % 2 == 0) ≡ b
parity q true = let e : q + q + 0 ≡ q * 2 + 0 = omega arith in ap (λ n. n % 2 == 0) e ∙ ap (λ n. n == 0) (mod-mul-add q 2 0 (omega arith))
parity q false = let e : q + q + 1 ≡ q * 2 + 1 = omega arith in ap (λ n. n % 2 == 0) e ∙ ap (λ n. n == 0) (mod-mul-add q 2 1 (omega arith))

first_value : (n m h lo : ℕ) → suc m ≤ n → lo < 2 ^ m → letter_in_row n (h * 2 ^ m + lo + 1) (n - suc m + 1) ≡ (h % 2 == 0)
first_value n m h lo w u =
    let place : n - (n - suc m + 1) ≡ m = omega (arith, w) in
    let number : h * 2 ^ m + lo + 1 - 1 ≡ h * 2 ^ m + lo = omega arith in
    ap₂ (λ r k. (r / 2 ^ k) % 2 == 0) number place ∙ ap (λ k. k % 2 == 0) (shr_high h m lo u)

abbrev values_from : ℕ → ℕ → ℕ → ℕ → List Bool
values_from n r j m = map (letter_in_row n r) (range_with_len j m)

-- In a row whose number ends in these values, the last letters have these values.
ends_in : (n q : ℕ) (bs : List Bool) → length bs ≤ n → values_from n (q * 2 ^ length bs + row_of bs + 1) (n - length bs + 1) (length bs) ≡ bs
ends_in n q [] w = refl
ends_in n q (b ∷ bs) w =
    let m : ℕ = length bs in
    let h : ℕ = q + q + cond b 0 1 in
    let e : q * 2 ^ suc m + (cond b 0 (2 ^ m) + row_of bs) + 1 ≡ h * 2 ^ m + row_of bs + 1 = ap (λ k. k + 1) (split q m (row_of bs) b) in
    let next : n - suc m + 1 + 1 ≡ n - m + 1 = omega (arith, w) in
    let less : m ≤ n = omega (arith, w) in
    ap (λ r. values_from n r (n - suc m + 1) (suc m)) e
    ∙ ap₂ ◌∷◌ (first_value n m h (row_of bs) w (row_below bs) ∙ parity q b)
    (ap (λ j. values_from n (h * 2 ^ m + row_of bs + 1) j m) next ∙ ends_in n h bs less)

-- The values are those of their row.
pub is_row : (n : ℕ) (bs : List Bool) → length bs ≡ n → row_values n (row_of bs + 1) ≡ bs
is_row n bs e =
    let number : row_of bs + 1 ≡ 0 * 2 ^ length bs + row_of bs + 1 = omega arith in
    let start : 1 ≡ n - length bs + 1 = omega (arith, e) in
    ap (λ r. values_from n r 1 n) number
    ∙ ap₂ (λ j m. values_from n (0 * 2 ^ length bs + row_of bs + 1) j m) start (sym e)
    ∙ ends_in n 0 bs (omega (arith, e))

contains_range : (a m k : ℕ) → k < m → Contains (range_with_len a m) (a + k)
contains_range a zero k h = absurd (omega (arith, h))
contains_range a (suc m) zero h = let e : a ≡ a + 0 = omega arith in subst (λ x. Contains (range_with_len a (suc m)) x) e (contains_here a (range_with_len (a + 1) m))
contains_range a (suc m) (suc k) h =
    let e : a + 1 + k ≡ a + suc k = omega arith in
    subst (λ x. Contains (range_with_len a (suc m)) x) e (contains_there a (a + 1 + k) (range_with_len (a + 1) m) (contains_range (a + 1) m k (omega (arith, h))))

pub row_among : (n : ℕ) (bs : List Bool) → length bs ≡ n → Contains (rows n) (row_of bs + 1)
row_among n bs e =
    let below : row_of bs < 2 ^ n = subst (λ k. row_of bs < 2 ^ k) e (row_below bs) in
    let turn : 1 + row_of bs ≡ row_of bs + 1 = omega arith in
    subst (λ r. Contains (rows n) r) turn (contains_range 1 (2 ^ n) (row_of bs) below)

lt_or_is : (i j : ℕ) → i ≤ j → (i < j) ⊎ (i ≡ j)
lt_or_is i j u = grind arith

power_up : (i j : ℕ) → (i < j) ⊎ (i ≡ j) → 2 ^ i ≤ 2 ^ j
power_up i j (inl l) = let p : 2 ^ i < 2 ^ j = pow_below i j l in omega (arith, p)
power_up i j (inr e) = let p : 2 ^ i ≡ 2 ^ j = ap (λ n. 2 ^ n) e in omega (arith, p)

-- A row that 32 bits count stands in the first block of so many rows.
pub first_block : (r k : ℕ) → r < 4294967296 → 31 < k → ((r / 2 ^ k) % 2 == 0) ≡ true
first_block r k h w =
    let power : 2 ^ 32 ≤ 2 ^ k = power_up 32 k (lt_or_is 32 k (omega (arith, w))) in
    let below : r < 2 ^ k = omega (arith, h, power) in
    let e : r ≡ 0 * 2 ^ k + r = omega arith in
    ap (λ q. (q / 2 ^ k) % 2 == 0) e ∙ ap (λ q. q % 2 == 0) (shr_high 0 k r below)
