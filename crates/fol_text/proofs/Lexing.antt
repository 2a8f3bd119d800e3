-- The tokens of a text, one after the other from its front: a text has one list of tokens at most, and the first of them
-- is the one that the reader takes.
use Rattle.std.proofs.Common.{◌≡◌, ℕ, suc, ◌+◌, Bool, true, false, ◌&&◌, ◌==◌, List, [], ◌∷◌, ◌++◌, length, take, drop, Option, Some, None, refl, ap, ap₂, sym, ◌∙◌, subst, arith, if◌then◌else◌, cond}
use Rattle.std.specs.List.{prefix_len, list_all}
use Rattle.std.proofs.Math.Seq.{take-append_seam, drop-append_seam}
use Rattle.std.proofs.lemmas.List.{take-append-drop}
use Rattle.std.proofs.lemmas.Bool.Decides.{nat_tests}
use Rattle.fol_core.specs.Word.{Word, is_ident, goes_on, is_letter}
use Rattle.texts.specs.Blanks.{is_blank}
use Rattle.fol_text.specs.declared.token.Token.{Token}
use Rattle.fol_text.specs.declared.token.Token.TheVariants.{NotSign, Identifier}
use Rattle.fol_text.specs.Tokens.{typed_sign, symbol, SpellsSign, typed, negation_symbol, other_symbol, ends_word, SpellsToken, sign, identifier, StartsNone}
use Rattle.fol_text.specs.Lexer.{before_bytes, first_typed, first_symbol, first_negation, first_sign, first_token}

-- no byte is of two kinds

typed_no_blank : (b : ℕ) (k : Token) → typed_sign b ≡ Some k → is_blank b ≡ false
unfolding typed_sign
typed_no_blank b k e = grind (arith, nat_tests)

typed_ends_words : (b : ℕ) (k : Token) → typed_sign b ≡ Some k → goes_on b ≡ false
unfolding typed_sign
typed_ends_words b k e = grind (arith, nat_tests)

typed_is_byte : (b : ℕ) (k : Token) → typed_sign b ≡ Some k → ((b == 226) ≡ false) × ((b == 194) ≡ false)
unfolding typed_sign
typed_is_byte b k e = (grind (arith, nat_tests), grind (arith, nat_tests))

letters_go_on : (b : ℕ) → is_letter b ≡ true → goes_on b ≡ true
letters_go_on b e = grind (arith, nat_tests)

letters_no_blank : (b : ℕ) → is_letter b ≡ true → is_blank b ≡ false
letters_no_blank b e = grind (arith, nat_tests)

pub both_true : (a b : Bool) → (a && b) ≡ true → (a ≡ true) × (b ≡ true)
both_true true b e = (refl, e)
both_true false b e = cc

-- each byte of an identifier may stand in one
pub ident_goes_on : (w : Word) → is_ident w ≡ true → list_all goes_on w ≡ true
ident_goes_on [] i = cc
ident_goes_on (b ∷ bs) i =
    let (first, rest) = both_true (is_letter b) (list_all goes_on bs) i in
    rw (letters_go_on b first, rest) refl

prefix_ends : (bs : List ℕ) → ends_word bs ≡ true → prefix_len goes_on bs ≡ 0
prefix_ends [] e = refl
prefix_ends (b ∷ bs) e = grind (arith, nat_tests)

-- the longest word at the front of an identifier and what ends it is the identifier
prefix_ident : (w : Word) (bs : List ℕ) → list_all goes_on w ≡ true → ends_word bs ≡ true → prefix_len goes_on (w ++ bs) ≡ length w
prefix_ident [] bs i e = prefix_ends bs e
prefix_ident (b ∷ w) bs i e =
    let (first, rest) = both_true (goes_on b) (list_all goes_on w) i in
    rw first (rw (prefix_ident w bs rest e) (omega arith))

-- what follows the longest word ends it
rest_ends_in : (b : ℕ) (bs : List ℕ) (n : ℕ) (c : Bool) → goes_on b ≡ c → ends_word (drop n bs) ≡ true → ends_word (drop (cond c (1 + n) 0) (b ∷ bs)) ≡ true
rest_ends_in b bs n true i e = let more : 1 + n ≡ suc n = omega arith in rw more e
rest_ends_in b bs n false i e = rw i refl

rest_ends : (bs : List ℕ) → ends_word (drop (prefix_len goes_on bs) bs) ≡ true
rest_ends [] = refl
rest_ends (b ∷ bs) = rest_ends_in b bs (prefix_len goes_on bs) (goes_on b) refl (rest_ends bs)

-- the reader's first token, where an identifier or a sign stands first
ident_first : (w : Word) (bs : List ℕ) → is_ident w ≡ true → ends_word bs ≡ true → first_token (w ++ bs) ≡ Some (Identifier w, bs)
unfolding first_token
ident_first w bs i e = rw (prefix_ident w bs (ident_goes_on w i) e, take-append_seam w bs, drop-append_seam w bs, i) refl

before_by : (o : Option Token) (k : Token) (bs : List ℕ) → o ≡ Some k → before_bytes o bs ≡ Some (k, bs)
before_by o k bs e = ap (λ (f : Option Token). before_bytes f bs) e

typed_found : (b : ℕ) (bs : List ℕ) (k : Token) → typed_sign b ≡ Some k → first_sign (b ∷ bs) ≡ Some (k, bs)
typed_found b bs k e = let (one, two) = typed_is_byte b k e in rw (one, two) (before_by (typed_sign b) k bs e)

sign_first_by : (b : ℕ) (bs : List ℕ) → goes_on b ≡ false → first_token (b ∷ bs) ≡ first_sign (b ∷ bs)
unfolding first_token
sign_first_by b bs e = rw e refl

sign_first : {w : List ℕ} {k : Token} → SpellsSign w k → (bs : List ℕ) → first_token (w ++ bs) ≡ Some (k, bs)
sign_first (typed b k e) bs = sign_first_by b bs (typed_ends_words b k e) ∙ typed_found b bs k e
sign_first negation_symbol bs = sign_first_by 194 (172 ∷ bs) refl
sign_first (other_symbol b c k e) bs = sign_first_by 226 (b ∷ c ∷ bs) refl ∙ before_by (symbol b c) k bs e

-- the token at the front is the one that the reader finds
pub token_first : {w : List ℕ} {k : Token} {bs : List ℕ} → SpellsToken w k bs → first_token (w ++ bs) ≡ Some (k, bs)
token_first (sign w k bs i) = sign_first i bs
token_first (identifier w bs i e) = ident_first w bs i e

-- the first byte of a token
pub record StartsWith (w : List ℕ) : Type 0 where
  pub byte : ℕ
  pub others : List ℕ
  pub is : w ≡ byte ∷ others
  pub no_blank : is_blank byte ≡ false

sign_starts : {w : List ℕ} {k : Token} → SpellsSign w k → StartsWith w
sign_starts (typed b k e) = record { byte = b; others = []; is = refl; no_blank = typed_no_blank b k e }
sign_starts negation_symbol = record { byte = 194; others = 172 ∷ []; is = refl; no_blank = refl }
sign_starts (other_symbol b c k e) = record { byte = 226; others = b ∷ c ∷ []; is = refl; no_blank = refl }

ident_starts : (w : Word) → is_ident w ≡ true → StartsWith w
ident_starts [] i = cc
ident_starts (b ∷ w) i =
    let (first, rest) = both_true (is_letter b) (list_all goes_on w) i in
    record { byte = b; others = w; is = refl; no_blank = letters_no_blank b first }

pub token_starts : {w : List ℕ} {k : Token} {bs : List ℕ} → SpellsToken w k bs → StartsWith w
token_starts (sign w k bs i) = sign_starts i
token_starts (identifier w bs i e) = ident_starts w i

-- the reader's first token is one
pub record IsFirst (bs : List ℕ) (k : Token) (rest : List ℕ) : Type 0 where
  pub spelling : List ℕ
  pub splits : bs ≡ spelling ++ rest
  pub spells : SpellsToken spelling k rest

abbrev Sound : List ℕ → Option (Token × List ℕ) → Type 0
Sound bs None = Unit {0}
Sound bs (Some f) = IsFirst bs f.0 f.1

typed_sound : (b : ℕ) (bs : List ℕ) (o : Option Token) → typed_sign b ≡ o → Sound (b ∷ bs) (before_bytes o bs)
typed_sound b bs None e = tt
typed_sound b bs (Some k) e = record { spelling = b ∷ []; splits = refl; spells = sign (b ∷ []) k bs (typed b k e) }

symbol_sound_by : (b c : ℕ) (bs : List ℕ) (o : Option Token) → symbol b c ≡ o → Sound (226 ∷ b ∷ c ∷ bs) (before_bytes o bs)
symbol_sound_by b c bs None e = tt
symbol_sound_by b c bs (Some k) e = record { spelling = 226 ∷ b ∷ c ∷ []; splits = refl; spells = sign (226 ∷ b ∷ c ∷ []) k bs (other_symbol b c k e) }

symbol_sound : (bs : List ℕ) → Sound (226 ∷ bs) (first_symbol bs)
symbol_sound [] = tt
symbol_sound (b ∷ []) = tt
symbol_sound (b ∷ c ∷ bs) = symbol_sound_by b c bs (symbol b c) refl

negation_sound_by : (b : ℕ) (bs : List ℕ) (t : Bool) → (b == 172) ≡ t → Sound (194 ∷ b ∷ bs) (if t then Some (NotSign, bs) else None)
negation_sound_by b bs false e = tt
negation_sound_by b bs true e =
    let same : b ≡ 172 = grind (arith, nat_tests) in
    record { spelling = 194 ∷ 172 ∷ []; splits = ap (λ (n : ℕ). 194 ∷ n ∷ bs) same; spells = sign (194 ∷ 172 ∷ []) NotSign bs negation_symbol }

negation_sound : (bs : List ℕ) → Sound (194 ∷ bs) (first_negation bs)
negation_sound [] = tt
negation_sound (b ∷ bs) = negation_sound_by b bs (b == 172) refl

sign_sound_by : (b : ℕ) (bs : List ℕ) (s t : Bool) → (b == 226) ≡ s → (b == 194) ≡ t → Sound (b ∷ bs) (if s then first_symbol bs else (if t then first_negation bs else first_typed (b ∷ bs)))
sign_sound_by b bs true t e f = let same : b ≡ 226 = grind (arith, nat_tests) in subst (λ (n : ℕ). Sound (n ∷ bs) (first_symbol bs)) (sym same) (symbol_sound bs)
sign_sound_by b bs false true e f = let same : b ≡ 194 = grind (arith, nat_tests) in subst (λ (n : ℕ). Sound (n ∷ bs) (first_negation bs)) (sym same) (negation_sound bs)
sign_sound_by b bs false false e f = typed_sound b bs (typed_sign b) refl

sign_sound : (bs : List ℕ) → Sound bs (first_sign bs)
sign_sound [] = tt
sign_sound (b ∷ bs) = sign_sound_by b bs (b == 226) (b == 194) refl refl

word_sound : (bs : List ℕ) (n : ℕ) → ends_word (drop n bs) ≡ true → (i : Bool) → is_ident (take n bs) ≡ i → Sound bs (if i then Some (Identifier (take n bs), drop n bs) else first_sign bs)
word_sound bs n e false i = sign_sound bs
word_sound bs n e true i = record { spelling = take n bs; splits = sym (take-append-drop n bs); spells = identifier (take n bs) (drop n bs) i e }

first_sound : (bs : List ℕ) → Sound bs (first_token bs)
unfolding first_token
first_sound bs = word_sound bs (prefix_len goes_on bs) (rest_ends bs) (is_ident (take (prefix_len goes_on bs) bs)) refl

pub token_sound : (bs : List ℕ) (k : Token) (rest : List ℕ) → first_token bs ≡ Some (k, rest) → IsFirst bs k rest
token_sound bs k rest e = subst (λ (o : Option (Token × List ℕ)). Sound bs o) e (first_sound bs)

pub first_sign_sound : (bs : List ℕ) (k : Token) (rest : List ℕ) → first_sign bs ≡ Some (k, rest) → IsFirst bs k rest
first_sign_sound bs k rest e = subst (λ (o : Option (Token × List ℕ)). Sound bs o) e (sign_sound bs)

none_found : (f : Token × List ℕ) → None ≡ Some f → ⊥
none_found f e = cc

-- where the reader finds no token, none begins
pub no_token : (bs : List ℕ) → first_token bs ≡ None → StartsNone bs
no_token bs e w k rest d i = none_found (k, rest) (sym e ∙ ap first_token d ∙ token_first i)

pub some_same : {X : Type 0} (x y : X) → Some x ≡ Some y → x ≡ y
some_same x y e = cc

word_found_in : (bs w rest after : List ℕ) (b : Bool) (i : Word) → after ≡ rest → Some i ≡ (if b then Some w else None) → (if b then Some (Identifier w, rest) else first_sign bs) ≡ Some (Identifier i, after)
word_found_in bs w rest after true i e m = ap₂ (λ (u : Word) (r : List ℕ). Some (Identifier u, r)) (sym (some_same i w m)) (sym e)
word_found_in bs w rest after false i e m = cc

no_word_found_in : (bs w rest : List ℕ) (b : Bool) → None ≡ (if b then Some w else None) → (if b then Some (Identifier w, rest) else first_sign bs) ≡ first_sign bs
no_word_found_in bs w rest true m = cc
no_word_found_in bs w rest false m = refl

-- what the reader's code finds at the front of the bytes

pub word_found : (bs : List ℕ) (n : ℕ) (w rest : List ℕ) (made : Option Word) (i : Word) → n ≡ prefix_len goes_on bs → w ≡ take n bs → rest ≡ drop n bs
    → made ≡ (if is_ident w then Some w else None) → made ≡ Some i → first_token bs ≡ Some (Identifier i, rest)
unfolding first_token
word_found bs n w rest made i e f g h m =
    word_found_in bs (take (prefix_len goes_on bs) bs) (drop (prefix_len goes_on bs) bs) rest (is_ident (take (prefix_len goes_on bs) bs)) i
    (g ∙ ap (λ (k : ℕ). drop k bs) e)
    (sym m ∙ h ∙ ap (λ (u : Word). if is_ident u then Some u else None) (f ∙ ap (λ (k : ℕ). take k bs) e))

pub no_word_found : (bs : List ℕ) (n : ℕ) (w : List ℕ) (made : Option Word) → n ≡ prefix_len goes_on bs → w ≡ take n bs
    → made ≡ (if is_ident w then Some w else None) → made ≡ None → first_token bs ≡ first_sign bs
unfolding first_token
no_word_found bs n w made e f h m =
    no_word_found_in bs (take (prefix_len goes_on bs) bs) (drop (prefix_len goes_on bs) bs) (is_ident (take (prefix_len goes_on bs) bs))
    (sym m ∙ h ∙ ap (λ (u : Word). if is_ident u then Some u else None) (f ∙ ap (λ (k : ℕ). take k bs) e))
