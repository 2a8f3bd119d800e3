-- The digits of a number, and where they end.
use Rattle.std.proofs.Common.{◌≡◌, ℕ, ◌+◌, ◌<◌, ◌≤◌, ◌^◌, eqb, true, false, not, List, [], ◌∷◌, ◌++◌, arith, refl, sym, ap, ap₂, subst, ◌∙◌}
use Rattle.std.specs.List.{list_all, list_any}
use Rattle.std.specs.Fmt.{decimal}
use Rattle.std.specs.Int.{IsInRange}
use Rattle.std.specs.Str.Parse.{AllDigits, digits_value}
use Rattle.std.proofs.lemmas.Str.Parse.{IsNumeralModel, numerals_by_value, tells_digits}
use Rattle.std.proofs.lemmas.Fmt.{digits_decimal, decimal_injective}
use Rattle.std.proofs.lemmas.Bool.{and_parts}
use Rattle.std.proofs.lemmas.Bool.Decides.{nat_tests}
use Rattle.texts.specs.Cuts.{Lacks}
use Rattle.texts.specs.Numbers.{IsCount}
use Rattle.fol_core.specs.Word.{is_digit}
use Rattle.fitch_file.specs.Numbering.{IsNumbered, ends_number}

numerals : IsNumeralModel (AllDigits 10) (digits_value 10)
numerals = numerals_by_value (AllDigits 10) tells_digits

in_digits : (c : ℕ) → IsInRange 48 57 c → is_digit c ≡ true
in_digits c h = grind (arith, nat_tests)

all_digits : (ds : List ℕ) → AllDigits 10 ds → list_all is_digit ds ≡ true
all_digits [] h = refl
all_digits (c ∷ cs) h =
    let p : IsInRange 48 57 c × AllDigits 10 cs = tells_digits.parts c cs h in
    let d : is_digit c ≡ true = in_digits c p.0 in
    let e : list_all is_digit cs ≡ true = all_digits cs p.1 in
    rw (d, e) refl

pub decimal_digits : (n : ℕ) → n < 2 ^ 64 → list_all is_digit (decimal n) ≡ true
decimal_digits n h = all_digits (decimal n) (digits_decimal numerals n h)

-- The digits at the front of a text end in one place at most.
pub digits_once : (xs ys us vs : List ℕ) → list_all is_digit xs ≡ true → list_all is_digit ys ≡ true → ends_number us ≡ true → ends_number vs ≡ true →
    xs ++ us ≡ ys ++ vs → (xs ≡ ys) × (us ≡ vs)
digits_once [] [] us vs h k i j e = (refl, e)
digits_once [] (y ∷ ys) us vs h k i j e =
    let d : (is_digit y ≡ true) × (list_all is_digit ys ≡ true) = and_parts (is_digit y) (list_all is_digit ys) k in
    let n : not (is_digit y) ≡ true = subst (λ t. ends_number t ≡ true) e i in
    let f : not true ≡ true = subst (λ b. not b ≡ true) d.0 n in
    absurd (cc)
digits_once (x ∷ xs) [] us vs h k i j e =
    let d : (is_digit x ≡ true) × (list_all is_digit xs ≡ true) = and_parts (is_digit x) (list_all is_digit xs) h in
    let n : not (is_digit x) ≡ true = subst (λ t. ends_number t ≡ true) (sym e) j in
    let f : not true ≡ true = subst (λ b. not b ≡ true) d.0 n in
    absurd (cc)
digits_once (x ∷ xs) (y ∷ ys) us vs h k i j e =
    let dx : (is_digit x ≡ true) × (list_all is_digit xs ≡ true) = and_parts (is_digit x) (list_all is_digit xs) h in
    let dy : (is_digit y ≡ true) × (list_all is_digit ys ≡ true) = and_parts (is_digit y) (list_all is_digit ys) k in
    let first : x ≡ y = cc in
    let rest : xs ++ us ≡ ys ++ vs = cc in
    let more : (xs ≡ ys) × (us ≡ vs) = digits_once xs ys us vs dx.1 dy.1 i j rest in
    (ap₂ ◌∷◌ first more.0, more.1)

pub count_once : (text : List ℕ) (n m : ℕ) → IsCount text n → IsCount text m → n ≡ m
count_once text n m h k = decimal_injective n m (omega (arith, h.high)) (omega (arith, k.high)) (sym h.written ∙ k.written)

pub numbered_where : (n m : ℕ) (text digits body : List ℕ) → text ≡ digits ++ body → ends_number body ≡ true → IsCount digits m → m ≡ n → IsNumbered n text body
numbered_where n m text digits body e f h k = record { written = e ∙ ap (λ d. d ++ body) (h.written ∙ ap decimal k); ends = f }

pub not_numbered : (n : ℕ) (text digits body : List ℕ) → text ≡ digits ++ body → list_all is_digit digits ≡ true → ends_number body ≡ true → 1 ≤ n → n ≤ 9999 →
    (IsCount digits n → ⊥) → (other : List ℕ) → IsNumbered n text other → ⊥
not_numbered n text digits body e d f low high none other h =
    let once : (digits ≡ decimal n) × (body ≡ other) = digits_once digits (decimal n) body other d (decimal_digits n (omega arith)) f h.ends (sym e ∙ h.written) in
    none (record { written = once.0; low = low; high = high })

hyphen_apart : (c : ℕ) → is_digit c ≡ true → eqb c 45 ≡ false
hyphen_apart c h = grind (arith, nat_tests)

lacks_hyphen : (ds : List ℕ) → list_all is_digit ds ≡ true → Lacks 45 ds
lacks_hyphen [] h = refl
lacks_hyphen (c ∷ cs) h =
    let d : (is_digit c ≡ true) × (list_all is_digit cs ≡ true) = and_parts (is_digit c) (list_all is_digit cs) h in
    let a : eqb c 45 ≡ false = hyphen_apart c d.0 in
    let b : list_any (λ x. eqb x 45) cs ≡ false = lacks_hyphen cs d.1 in
    rw (a, b) refl

pub count_lacks_hyphen : (text : List ℕ) (n : ℕ) → IsCount text n → Lacks 45 text
count_lacks_hyphen text n h = subst (Lacks 45) (sym h.written) (lacks_hyphen (decimal n) (decimal_digits n (omega (arith, h.high))))
