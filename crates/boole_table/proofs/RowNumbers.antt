-- The numbers of rows, and the values of the letters in them.
use Rattle.std.proofs.Common.{◌≡◌, ℕ, zero, suc, ◌+◌, ◌-◌, ◌*◌, ◌/◌, ◌%◌, ◌^◌, ◌<◌, ◌≤◌, Bool, List, [], ◌∷◌, ◌++◌, length, map, refl, sym, ap, ap₂, ◌∙◌, arith}
use Rattle.std.specs.Prelude.{◌==◌}
use Rattle.std.specs.List.{range_with_len}
use Rattle.std.proofs.lemmas.Bool.Decides.{nat_tests}
use Rattle.std.proofs.lemmas.List.FromFn.{map-range_with_len_more, length-map-range_with_len}
use Rattle.std.proofs.Math.Nat.{div-div-eq-div-mul, pow-succ'}
use Rattle.taut_con.specs.Rows.{letter_in_row, row_values}

-- Functions that agree on a range have the same values there.
pub range_same : {X : Type 0} (f g : ℕ → X) (a n : ℕ) → ((j : ℕ) → a ≤ j → j < a + n → f j ≡ g j) → map f (range_with_len a n) ≡ map g (range_with_len a n)
range_same f g a zero h = refl
range_same f g a (suc n) h = ap₂ ◌∷◌ (h a (omega arith) (omega arith)) (range_same f g (a + 1) n (λ j l u. h j (omega arith) (omega arith)))

-- The last letter alternates, and the others have the values of the row of one letter less.
before_last : (n m c j : ℕ) → c ≤ 1 → j ≤ n → letter_in_row (n + 1) (2 * m + c + 1) j ≡ letter_in_row n (m + 1) j
before_last n m c j h u =
    let e : (n + 1) - j ≡ suc (n - j) = omega arith in
    let p : 2 ^ ((n + 1) - j) ≡ 2 * 2 ^ (n - j) = ap (λ k. 2 ^ k) e ∙ pow-succ' 2 (n - j) in
    let half : ((2 * m + c + 1) - 1) / 2 ≡ (m + 1) - 1 = omega arith in
    let d : ((2 * m + c + 1) - 1) / (2 ^ ((n + 1) - j)) ≡ ((m + 1) - 1) / (2 ^ (n - j)) =
    ap (λ k. ((2 * m + c + 1) - 1) / k) p ∙ sym (div-div-eq-div-mul ((2 * m + c + 1) - 1) 2 (2 ^ (n - j))) ∙ ap (λ k. k / (2 ^ (n - j))) half in
    ap (λ k. k % 2 == 0) d

last_letter : (n m c : ℕ) → c ≤ 1 → letter_in_row (n + 1) (2 * m + c + 1) (n + 1) ≡ (c == 0)
last_letter n m c h =
    let e : (n + 1) - (n + 1) ≡ 0 = omega arith in
    let w : ((2 * m + c + 1) - 1) / 1 ≡ (2 * m + c + 1) - 1 = omega arith in
    let r : ((2 * m + c + 1) - 1) % 2 ≡ c = omega arith in
    ap (λ k. (((2 * m + c + 1) - 1) / (2 ^ k)) % 2 == 0) e ∙ ap (λ k. k % 2 == 0) w ∙ ap (λ k. k == 0) r

pub row_step : (n m c : ℕ) → c ≤ 1 → row_values (n + 1) (2 * m + c + 1) ≡ row_values n (m + 1) ++ (c == 0) ∷ []
row_step n m c h =
    map-range_with_len_more (letter_in_row (n + 1) (2 * m + c + 1)) 1 n (n + 1) (omega arith)
    ∙ ap₂ (λ xs y. xs ++ y ∷ []) (range_same (letter_in_row (n + 1) (2 * m + c + 1)) (letter_in_row n (m + 1)) 1 n (λ j l u. before_last n m c j h (omega arith))) (last_letter n m c h)

-- Two rows with the same values are one.
snoc_parts : (xs ys : List Bool) (x y : Bool) → length xs ≡ length ys → xs ++ x ∷ [] ≡ ys ++ y ∷ [] → (xs ≡ ys) × (x ≡ y)
snoc_parts [] [] x y l e = (refl, cc)
snoc_parts [] (c ∷ ys) x y l e = absurd (omega (arith, l))
snoc_parts (b ∷ xs) [] x y l e = absurd (omega (arith, l))
snoc_parts (b ∷ xs) (c ∷ ys) x y l e =
    let f : b ≡ c = cc in
    let r : xs ++ x ∷ [] ≡ ys ++ y ∷ [] = cc in
    let s : (xs ≡ ys) × (x ≡ y) = snoc_parts xs ys x y (omega (arith, l)) r in
    (ap₂ ◌∷◌ f s.0, s.1)

same_bit : (x y : ℕ) → x ≤ 1 → y ≤ 1 → (x == 0) ≡ (y == 0) → x ≡ y
same_bit x y h k e = grind (arith, nat_tests)

row_parts : (n a : ℕ) → row_values (suc n) (a + 1) ≡ row_values n (a / 2 + 1) ++ (a % 2 == 0) ∷ []
row_parts n a =
    let q : suc n ≡ n + 1 = omega arith in
    let r : a + 1 ≡ 2 * (a / 2) + a % 2 + 1 = omega arith in
    ap₂ row_values q r ∙ row_step n (a / 2) (a % 2) (omega arith)

same_length : (n r s : ℕ) → length (row_values n r) ≡ length (row_values n s)
same_length n r s = length-map-range_with_len (letter_in_row n r) 1 n ∙ sym (length-map-range_with_len (letter_in_row n s) 1 n)

pub rows_apart : (n a b : ℕ) → a < 2 ^ n → b < 2 ^ n → row_values n (a + 1) ≡ row_values n (b + 1) → a ≡ b
rows_apart zero a b h k e = omega arith
rows_apart (suc n) a b h k e =
    let s : (row_values n (a / 2 + 1) ≡ row_values n (b / 2 + 1)) × ((a % 2 == 0) ≡ (b % 2 == 0)) =
    snoc_parts (row_values n (a / 2 + 1)) (row_values n (b / 2 + 1)) (a % 2 == 0) (b % 2 == 0) (same_length n (a / 2 + 1) (b / 2 + 1)) (sym (row_parts n a) ∙ e ∙ row_parts n b) in
    let p : 2 ^ suc n ≡ 2 * 2 ^ n = pow-succ' 2 n in
    let d : a / 2 ≡ b / 2 = rows_apart n (a / 2) (b / 2) (omega arith) (omega arith) s.0 in
    let c : a % 2 ≡ b % 2 = same_bit (a % 2) (b % 2) (omega arith) (omega arith) s.1 in
    omega arith
