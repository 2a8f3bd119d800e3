-- Numbers from 1 to 9999 and their digits.
use Rattle.std.proofs.Common.{◌≡◌, ℕ, zero, suc, ◌<◌, ◌≤◌, ◌^◌, List, length, get_or, arith, refl, sym, ap, subst, ◌∙◌, Result, Ok, Err}
use Rattle.std.specs.Fmt.{decimal}
use Rattle.std.specs.Str.{IsUtf8}
use Rattle.std.specs.Str.Parse.{AllDigits, digits_value, ParsesUnsigned}
use Rattle.std.specs.Result.{OkIff}
use Rattle.std.proofs.lemmas.Str.Parse.{IsNumeralModel, numerals_by_value, tells_digits, digits_value_short, digit_at, parse_plain}
use Rattle.std.proofs.lemmas.Fmt.{decimal-digits_value, digits_decimal, length-decimal-le, first_decimal, decimal_nonempty, decimal_digit, IsAscii-decimal}
use Rattle.std.proofs.lemmas.Str.{IsUtf8-from_ascii}
use Rattle.std.specs.Int.{IsInRange}
use Rattle.texts.specs.Numbers.{IsCount, MayCount}

numerals : IsNumeralModel (AllDigits 10) (digits_value 10)
numerals = numerals_by_value (AllDigits 10) tells_digits

zero_first : (text : List ℕ) (n : ℕ) → text ≡ decimal n → n ≡ 0 → get_or text 0 0 ≡ 48
zero_first text n e z = ap (λ t. get_or t 0 0) (e ∙ ap decimal z ∙ decimal_digit 0 (omega arith))

positive : (n : ℕ) → (n ≡ 0 → ⊥) → 1 ≤ n
positive zero h = absurd (h refl)
positive (suc n) h = omega arith

-- one to four digits, the first not 0, write a number
counts : (text : List ℕ) → MayCount text → AllDigits 10 text → IsCount text (digits_value 10 text)
counts text m ds =
    let high : digits_value 10 text < 10 ^ 4 = digits_value_short numerals text 4 ds m.few in
    let e : decimal (digits_value 10 text) ≡ text = decimal-digits_value numerals text ds m.some (λ z. absurd (omega (arith, m.low))) (omega arith) in
    record { written = sym e; low = positive (digits_value 10 text) (λ z. absurd (omega (arith, m.low, zero_first text (digits_value 10 text) (sym e) z))); high = omega arith }

-- what writes a number has one to four bytes, the first a digit that isn't 0
pub may_count : (text : List ℕ) (n : ℕ) → IsCount text n → MayCount text
may_count text n c =
    let ds : AllDigits 10 text = subst (AllDigits 10) (sym c.written) (digits_decimal numerals n (omega (arith, c.high))) in
    let some : 0 < length text = rw c.written (decimal_nonempty n (omega (arith, c.high))) in
    let few : length text ≤ 4 = rw c.written (length-decimal-le 4 n (omega arith) (omega (arith, c.high)) (omega (arith, c.high))) in
    let first : 48 < get_or text 0 0 = rw c.written (first_decimal n (omega (arith, c.low)) (omega (arith, c.high))) in
    let range : IsInRange 48 57 (get_or text 0 0) = digit_at text 0 ds some in
    record { some = some; few = few; low = omega arith; high = omega (arith, range) }

-- and is text
pub is_utf8 : (text : List ℕ) (n : ℕ) → IsCount text n → IsUtf8 text
is_utf8 text n c = subst IsUtf8 (sym c.written) (IsUtf8-from_ascii (decimal n) (IsAscii-decimal n (omega (arith, c.high))))

-- what a parse of such a text says
pub parsed : {E : Type 0} (text : List ℕ) (n : ℕ) (r : Result ℕ E) → MayCount text → ParsesUnsigned 32 10 text r → r ≡ Ok n → IsCount text n
parsed text n r m p e =
    let q : OkIff r (AllDigits 10 text × (0 < length text) × (digits_value 10 text < 2 ^ 32)) (digits_value 10 text) = parse_plain numerals 32 text r p (omega (arith, m.high)) in
    let w : (AllDigits 10 text × (0 < length text) × (digits_value 10 text < 2 ^ 32)) × (n ≡ digits_value 10 text) = rw e at q in
    subst (IsCount text) (sym w.1) (counts text m w.0.0)

pub not_parsed : {E : Type 0} (text : List ℕ) (n : ℕ) (r : Result ℕ E) (x : E) → MayCount text → ParsesUnsigned 32 10 text r → r ≡ Err x → IsCount text n → ⊥
not_parsed text n r x m p e c =
    let q : OkIff r (AllDigits 10 text × (0 < length text) × (digits_value 10 text < 2 ^ 32)) (digits_value 10 text) = parse_plain numerals 32 text r p (omega (arith, m.high)) in
    let w : ¬ (AllDigits 10 text × (0 < length text) × (digits_value 10 text < 2 ^ 32)) = rw e at q in
    let ds : AllDigits 10 text = subst (AllDigits 10) (sym c.written) (digits_decimal numerals n (omega (arith, c.high))) in
    let small : digits_value 10 text < 10 ^ 4 = digits_value_short numerals text 4 ds m.few in
    w (ds, m.some, omega arith)
