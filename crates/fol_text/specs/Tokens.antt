-- The tokens that a text is made of, each with its place.
use Rattle.std.specs.Prelude.{◌≡◌, ℕ, ◌+◌, Bool, true, false, not, ◌&&◌, ◌==◌, List, [], ◌∷◌, ◌++◌, length, map, Option, Some, None, if◌then◌else◌}
use Rattle.texts.specs.Blanks.{is_blank}
use Rattle.fol_core.specs.Word.{Word, is_ident, goes_on}
use Rattle.fol_text.specs.declared.token.Token.{Token}
use Rattle.fol_text.specs.declared.token.Token.TheVariants.{NotSign, AndSign, OrSign, IfSign, IffSign, AllSign, ExistsSign, FalsumSign, Equals, Unequal, Open, Close, Comma, Identifier}
use Rattle.fol_text.specs.declared.token.Placed.{Placed}

-- The sign that one byte is, as it is typed: `~ & | $ % @ / ^ = # ( ) ,`.
unfoldable pub typed_sign : ℕ → Option Token
typed_sign b =
    if b == 126 then Some NotSign
    else (if b == 38 then Some AndSign
    else (if b == 124 then Some OrSign
    else (if b == 36 then Some IfSign
    else (if b == 37 then Some IffSign
    else (if b == 64 then Some AllSign
    else (if b == 47 then Some ExistsSign
    else (if b == 94 then Some FalsumSign
    else (if b == 61 then Some Equals
    else (if b == 35 then Some Unequal
    else (if b == 40 then Some Open
    else (if b == 41 then Some Close
    else (if b == 44 then Some Comma else None))))))))))))

-- The logician's symbol that the byte 226 and these two are in UTF-8: ∧, ∨, →, ↔, ∀, ∃, ⊥ and ≠ in this order.
unfoldable pub symbol : ℕ → ℕ → Option Token
symbol b c =
    if b == 136 && c == 167 then Some AndSign
    else (if b == 136 && c == 168 then Some OrSign
    else (if b == 134 && c == 146 then Some IfSign
    else (if b == 134 && c == 148 then Some IffSign
    else (if b == 136 && c == 128 then Some AllSign
    else (if b == 136 && c == 131 then Some ExistsSign
    else (if b == 138 && c == 165 then Some FalsumSign
    else (if b == 137 && c == 160 then Some Unequal else None)))))))

-- The bytes spell the sign: as it is typed, or as the logician's symbol in UTF-8. The bytes 194 and 172 are ¬.
pub data SpellsSign : List ℕ → Token → Type 0 where
  typed : (b : ℕ) (k : Token) → typed_sign b ≡ Some k → SpellsSign (b ∷ []) k
  negation_symbol : SpellsSign (194 ∷ 172 ∷ []) NotSign
  other_symbol : (b c : ℕ) (k : Token) → symbol b c ≡ Some k → SpellsSign (226 ∷ b ∷ c ∷ []) k

-- An identifier before these bytes ends there: the text is over, or its next byte continues no identifier.
abbrev pub ends_word : List ℕ → Bool
ends_word [] = true
ends_word (b ∷ bs) = not (goes_on b)

-- The first bytes spell the token where the others follow: a sign, or an identifier as long as it goes.
pub data SpellsToken : List ℕ → Token → List ℕ → Type 0 where
  sign : (w : List ℕ) (k : Token) (rest : List ℕ) → SpellsSign w k → SpellsToken w k rest
  identifier : (w : Word) (rest : List ℕ) → is_ident w ≡ true → ends_word rest ≡ true → SpellsToken w (Identifier w) rest

-- The token at this place.
abbrev pub placed : ℕ → Token → Placed
placed n k = record { place = n; token = k }

-- The tokens without their places.
abbrev pub tokens_of : List Placed → List Token
tokens_of ks = map (λ k. k.token) ks

-- `AreTokens n bs ks`: the bytes, the first of which has place `n`, spell these tokens in their order, with blanks
-- anywhere between them.
pub data AreTokens : ℕ → List ℕ → List Placed → Type 0 where
  at_end : (n : ℕ) → AreTokens n [] []
  blank : (n b : ℕ) (bs : List ℕ) (ks : List Placed) → is_blank b ≡ true → AreTokens (n + 1) bs ks → AreTokens n (b ∷ bs) ks
  token : (n : ℕ) (w : List ℕ) (k : Token) (bs : List ℕ) (ks : List Placed) → SpellsToken w k bs → AreTokens (n + length w) bs ks → AreTokens n (w ++ bs) (placed n k ∷ ks)

-- No token begins at the front of the bytes.
abbrev pub StartsNone : List ℕ → Type 0
StartsNone bs = (w : List ℕ) (k : Token) (rest : List ℕ) → bs ≡ w ++ rest → SpellsToken w k rest → ⊥

-- `IsBadAt n bs p`: of the bytes, the first of which has place `n`, blanks and tokens lead to the byte at place `p`, where
-- neither a blank nor a token begins.
pub data IsBadAt : ℕ → List ℕ → ℕ → Type 0 where
  starts_none : (n b : ℕ) (bs : List ℕ) → is_blank b ≡ false → StartsNone (b ∷ bs) → IsBadAt n (b ∷ bs) n
  past_blank : (n b : ℕ) (bs : List ℕ) (p : ℕ) → is_blank b ≡ true → IsBadAt (n + 1) bs p → IsBadAt n (b ∷ bs) p
  past_token : (n : ℕ) (w : List ℕ) (k : Token) (bs : List ℕ) (p : ℕ) → SpellsToken w k bs → IsBadAt (n + length w) bs p → IsBadAt n (w ++ bs) p
