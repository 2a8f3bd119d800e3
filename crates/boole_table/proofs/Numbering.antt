-- Numbers of one to four digits, and the first word of a text.
use Rattle.std.proofs.Common.{◌≡◌, ℕ, ◌+◌, ◌<◌, ◌^◌, Bool, true, false, List, [], ◌∷◌, ◌++◌, length, take, drop, get_or, if◌then◌else◌, arith, refl, sym, ap, ◌∙◌, add-one, drop-cons, append_assoc, append-nil, Result, Ok, Err}
use Rattle.std.specs.Str.{IsUtf8}
use Rattle.std.specs.Str.Parse.{AllDigits, digits_value, ParsesUnsigned}
use Rattle.std.specs.Result.{OkIff}
use Rattle.std.specs.Int.{IsInRange}
use Rattle.std.proofs.lemmas.List.{take_more}
use Rattle.std.proofs.lemmas.Str.Parse.{IsNumeralModel, numerals_by_value, tells_digits, digits_value_short, digit_at, parse_plain}
use Rattle.std.proofs.lemmas.Fmt.{IsAscii-from_digits}
use Rattle.std.proofs.lemmas.Str.{IsUtf8-from_ascii}
use Rattle.texts.specs.Blanks.{is_blank}
use Rattle.fitch_file.specs.Words.{before_blank, from_blank}
use Rattle.boole_table.specs.AnswerLines.{IsNumber, MayNumber}

numerals : IsNumeralModel (AllDigits 10) (digits_value 10)
numerals = numerals_by_value (AllDigits 10) tells_digits

pub may_number : (text : List ℕ) (n : ℕ) → IsNumber text n → MayNumber text
may_number text n h =
    let range : IsInRange 48 57 (get_or text 0 0) = digit_at text 0 h.digits h.some in
    record { some = h.some; few = h.few; low = omega (arith, range); high = omega (arith, range) }

pub number_text : (text : List ℕ) (n : ℕ) → IsNumber text n → IsUtf8 text
number_text text n h = IsUtf8-from_ascii text (IsAscii-from_digits text h.digits)

pub parsed : {E : Type 0} (text : List ℕ) (n : ℕ) (r : Result ℕ E) → MayNumber text → ParsesUnsigned 32 10 text r → r ≡ Ok n → IsNumber text n
parsed text n r m p e =
    let q : OkIff r (AllDigits 10 text × (0 < length text) × (digits_value 10 text < 2 ^ 32)) (digits_value 10 text) = parse_plain numerals 32 text r p (omega (arith, m.low)) in
    let w : (AllDigits 10 text × (0 < length text) × (digits_value 10 text < 2 ^ 32)) × (n ≡ digits_value 10 text) = rw e at q in
    record { some = m.some; few = m.few; digits = w.0.0; is = w.1 }

pub not_parsed : {E : Type 0} (text : List ℕ) (n : ℕ) (r : Result ℕ E) (x : E) → MayNumber text → ParsesUnsigned 32 10 text r → r ≡ Err x → IsNumber text n → ⊥
not_parsed text n r x m p e h =
    let q : OkIff r (AllDigits 10 text × (0 < length text) × (digits_value 10 text < 2 ^ 32)) (digits_value 10 text) = parse_plain numerals 32 text r p (omega (arith, m.low)) in
    let w : ¬ (AllDigits 10 text × (0 < length text) × (digits_value 10 text < 2 ^ 32)) = rw e at q in
    let small : digits_value 10 text < 10 ^ 4 = digits_value_short numerals text 4 h.digits h.few in
    w (h.digits, h.some, omega arith)

-- the first word

-- The bytes before a place have no blank.
pub record BlankFree (text : List ℕ) (i : ℕ) : Type 0 where
  pub word : before_blank text ≡ take i text ++ before_blank (drop i text)
  pub rest : from_blank text ≡ from_blank (drop i text)

pub free_start : (text : List ℕ) → BlankFree text 0
free_start text = record { word = refl; rest = refl }

here : (text : List ℕ) (i : ℕ) → i < length text → drop i text ≡ get_or text i 0 ∷ drop (i + 1) text
here text i h = rw (add-one, drop-cons text i 0) refl

word_at : (b : ℕ) (bs : List ℕ) (c : Bool) → is_blank b ≡ c → before_blank (b ∷ bs) ≡ (if c then [] else b ∷ before_blank bs)
word_at b bs c e = ap (λ d. if d then [] else b ∷ before_blank bs) e

rest_at : (b : ℕ) (bs : List ℕ) (c : Bool) → is_blank b ≡ c → from_blank (b ∷ bs) ≡ (if c then b ∷ bs else from_blank bs)
rest_at b bs c e = ap (λ d. if d then b ∷ bs else from_blank bs) e

pub free_more : (text : List ℕ) (i : ℕ) → i < length text → is_blank (get_or text i 0) ≡ false → BlankFree text i → BlankFree text (i + 1)
free_more text i h b f = record {
  word = f.word ∙ ap (λ xs. take i text ++ xs) (ap before_blank (here text i h) ∙ word_at (get_or text i 0) (drop (i + 1) text) false b)
      ∙ sym (append_assoc (take i text) (get_or text i 0 ∷ []) (before_blank (drop (i + 1) text)))
      ∙ ap (λ xs. xs ++ before_blank (drop (i + 1) text)) (sym (take_more text i 0 h));
  rest = f.rest ∙ ap from_blank (here text i h) ∙ rest_at (get_or text i 0) (drop (i + 1) text) false b;
}

pub word_found : (text : List ℕ) (i : ℕ) → i < length text → is_blank (get_or text i 0) ≡ true → BlankFree text i → take i text ≡ before_blank text
word_found text i h b f =
    sym (f.word ∙ ap (λ xs. take i text ++ xs) (ap before_blank (here text i h) ∙ word_at (get_or text i 0) (drop (i + 1) text) true b) ∙ append-nil (take i text))

pub rest_found : (text : List ℕ) (i : ℕ) → i < length text → is_blank (get_or text i 0) ≡ true → BlankFree text i → drop i text ≡ from_blank text
rest_found text i h b f = sym (f.rest ∙ ap from_blank (here text i h) ∙ rest_at (get_or text i 0) (drop (i + 1) text) true b ∙ sym (here text i h))
