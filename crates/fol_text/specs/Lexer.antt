-- The lexer as a function: the token that the code finds at the front of the bytes. What a token is, is a definition of
-- its own, and the laws in proofs/ join the two.
use Rattle.std.specs.Prelude.{◌≡◌, ℕ, ◌==◌, true, List, [], ◌∷◌, ◌++◌, take, drop, Option, Some, None, if◌then◌else◌}
use Rattle.std.specs.List.{prefix_len}
use Rattle.texts.specs.Blanks.{is_blank}
use Rattle.fol_core.specs.Word.{is_ident, goes_on}
use Rattle.fol_text.specs.Tokens.{typed_sign, symbol, SpellsToken, placed}
use Rattle.fol_text.specs.declared.token.Placed.{Placed}
use Rattle.fol_text.specs.declared.token.Token.{Token}
use Rattle.fol_text.specs.declared.token.Token.TheVariants.{NotSign, Identifier}

-- The bytes after a blank in front.
abbrev pub after_blank : List ℕ → Option (List ℕ)
after_blank [] = None
after_blank (b ∷ bs) = if is_blank b then Some bs else None

-- The token, where there is one, and these bytes after it.
abbrev pub before_bytes : Option Token → List ℕ → Option (Token × List ℕ)
before_bytes (Some k) bs = Some (k, bs)
before_bytes None bs = None

-- The sign of one byte at the front.
abbrev pub first_typed : List ℕ → Option (Token × List ℕ)
first_typed [] = None
first_typed (b ∷ bs) = before_bytes (typed_sign b) bs

-- The symbol behind the byte 226.
abbrev pub first_symbol : List ℕ → Option (Token × List ℕ)
first_symbol (b ∷ c ∷ bs) = before_bytes (symbol b c) bs
first_symbol _ = None

-- The symbol for negation behind the byte 194.
abbrev pub first_negation : List ℕ → Option (Token × List ℕ)
first_negation [] = None
first_negation (b ∷ bs) = if b == 172 then Some (NotSign, bs) else None

-- The sign at the front of the bytes, and the bytes after it.
abbrev pub first_sign : List ℕ → Option (Token × List ℕ)
first_sign [] = None
first_sign (b ∷ bs) = if b == 226 then first_symbol bs else (if b == 194 then first_negation bs else first_typed (b ∷ bs))

-- The token at the front of the bytes, and the bytes after it, where no blank stands first.
unfoldable pub first_token : List ℕ → Option (Token × List ℕ)
first_token bs = let n = prefix_len goes_on bs in if is_ident (take n bs) then Some (Identifier (take n bs), drop n bs) else first_sign bs

-- One turn of the lexer at this place of the text: it passes a blank, or takes a token.
pub data Passes : ℕ → List ℕ → List Placed → List ℕ → Type 0 where
  a_blank : (n b : ℕ) (rest : List ℕ) → is_blank b ≡ true → Passes n (b ∷ rest) [] rest
  a_token : (n : ℕ) (w : List ℕ) (k : Token) (rest : List ℕ) → SpellsToken w k rest → Passes n (w ++ rest) (placed n k ∷ []) rest
