-- The first word of a text.
use Rattle.std.proofs.Common.{◌≡◌, ◌≢◌, ℕ, ◌+◌, ◌-◌, ◌<◌, ◌≤◌, Bool, true, false, not, List, [], ◌∷◌, ◌++◌, length, take, drop, get_or, arith, refl, sym, ap, subst, ◌∙◌, length-append, append-nil, take-append-drop, take_all}
use Rattle.std.specs.List.{list_all}
use Rattle.std.proofs.lemmas.Bool.{and_parts}
use Rattle.std.proofs.Math.Seq.{drop-cons}
use Rattle.texts.specs.Blanks.{is_blank}
use Rattle.fitch_file.specs.Words.{before_blank, from_blank, ends_word}

abbrev pub no_blank : List ℕ → Bool
no_blank xs = list_all (λ b. not (is_blank b)) xs

not_true : (b : Bool) → not b ≡ true → b ≡ false
not_true true h = absurd (cc)
not_true false h = refl

word_end : (ys : List ℕ) → ends_word ys ≡ true → before_blank ys ≡ []
word_end [] h = refl
word_end (y ∷ ys) h = rw h refl

rest_end : (ys : List ℕ) → ends_word ys ≡ true → from_blank ys ≡ ys
rest_end [] h = refl
rest_end (y ∷ ys) h = rw h refl

pub word_of : (xs ys : List ℕ) → no_blank xs ≡ true → ends_word ys ≡ true → before_blank (xs ++ ys) ≡ xs
word_of [] ys h k = word_end ys k
word_of (x ∷ xs) ys h k =
    let p : (not (is_blank x) ≡ true) × (no_blank xs ≡ true) = and_parts (not (is_blank x)) (no_blank xs) h in
    let f : is_blank x ≡ false = not_true (is_blank x) p.0 in
    rw f (ap (λ zs. x ∷ zs) (word_of xs ys p.1 k))

pub rest_of : (xs ys : List ℕ) → no_blank xs ≡ true → ends_word ys ≡ true → from_blank (xs ++ ys) ≡ ys
rest_of [] ys h k = rest_end ys k
rest_of (x ∷ xs) ys h k =
    let p : (not (is_blank x) ≡ true) × (no_blank xs ≡ true) = and_parts (not (is_blank x)) (no_blank xs) h in
    let f : is_blank x ≡ false = not_true (is_blank x) p.0 in
    rw f (rest_of xs ys p.1 k)

pub ends_at : (text : List ℕ) (place : ℕ) → place < length text → is_blank (get_or text place 0) ≡ true → ends_word (drop place text) ≡ true
ends_at text place h b = rw (drop-cons text place 0) b

pub word_at : (text : List ℕ) (place : ℕ) → place < length text → no_blank (take place text) ≡ true → is_blank (get_or text place 0) ≡ true → take place text ≡ before_blank text
word_at text place h k b = sym (word_of (take place text) (drop place text) k (ends_at text place h b)) ∙ ap before_blank (take-append-drop place text)

pub rest_at : (text : List ℕ) (place : ℕ) → place < length text → no_blank (take place text) ≡ true → is_blank (get_or text place 0) ≡ true → drop place text ≡ from_blank text
rest_at text place h k b = sym (rest_of (take place text) (drop place text) k (ends_at text place h b)) ∙ ap from_blank (take-append-drop place text)

all_taken : (text : List ℕ) (place : ℕ) → length text ≤ place → no_blank (take place text) ≡ true → no_blank text ≡ true
all_taken text place h k = subst (λ t. no_blank t ≡ true) (take_all place text h) k

pub word_all : (text : List ℕ) (place : ℕ) → length text ≤ place → no_blank (take place text) ≡ true → text ≡ before_blank text
word_all text place h k = sym (word_of text [] (all_taken text place h k) refl) ∙ ap before_blank (append-nil text)

pub rest_all : (text : List ℕ) (place : ℕ) → length text ≤ place → no_blank (take place text) ≡ true → [] ≡ from_blank text
rest_all text place h k = sym (rest_of text [] (all_taken text place h k) refl) ∙ ap from_blank (append-nil text)

pub shorter_behind : (text word rest start : List ℕ) → start ≡ word ++ rest → length start ≤ length text → word ≢ [] → length rest < length text
shorter_behind text [] rest start e h some = absurd (some refl)
shorter_behind text (b ∷ bs) rest start e h some = omega (arith, ap length e, length-append (b ∷ bs) rest)
