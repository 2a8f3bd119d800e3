-- What the quick reader of a sentence has read at the front of a text. It reads only what the grammar spells, and says
-- nothing of what it gives up on.
use Rattle.std.specs.Prelude.{◌≡◌, ℕ, true, List, [], ◌∷◌, ◌++◌, Some}
use Rattle.texts.specs.Blanks.{is_blank}
use Rattle.fol_core.specs.Word.{Word}
use Rattle.fol_core.specs.declared.sent.Term.{Term}
use Rattle.fol_core.specs.declared.sent.Sent.{Sent}
use Rattle.fol_text.specs.declared.token.Token.{Token}
use Rattle.fol_text.specs.declared.token.Token.TheVariants.{Identifier, Close}
use Rattle.fol_text.specs.Tokens.{SpellsToken, typed_sign}
use Rattle.fol_text.specs.Grammar.{SpellsTerm, SpellsTerms, Spells, SpellsParts, SpellsPart}

-- `Begins bs ks rest`: the bytes are these tokens, with blanks anywhere before and between them, and then the rest.
pub data Begins : List ℕ → List Token → List ℕ → Type 0 where
  nothing : (bs : List ℕ) → Begins bs [] bs
  a_blank : (b : ℕ) (bs : List ℕ) (ks : List Token) (rest : List ℕ) → is_blank b ≡ true → Begins bs ks rest → Begins (b ∷ bs) ks rest
  a_token : (w : List ℕ) (k : Token) (bs : List ℕ) (ks : List Token) (rest : List ℕ) → SpellsToken w k bs → Begins bs ks rest → Begins (w ++ bs) (k ∷ ks) rest

-- The sign that this byte is as it is typed, if it is one, stands there, typed or as the logicians write it.
pub record SignRead (b : ℕ) (bs rest : List ℕ) : Type 0 where
  pub begins : (k : Token) → typed_sign b ≡ Some k → Begins bs (k ∷ []) rest

-- A term stands there.
pub record TermRead (room : ℕ) (bs : List ℕ) (t : Term) (rest : List ℕ) : Type 0 where
  pub tokens : List Token
  pub begins : Begins bs tokens rest
  pub spells : SpellsTerm room tokens t

-- Behind the identifier stands what makes it a term.
pub record TermBehind (room : ℕ) (w : Word) (bs : List ℕ) (t : Term) (rest : List ℕ) : Type 0 where
  pub tokens : List Token
  pub begins : Begins bs tokens rest
  pub spells : SpellsTerm room (Identifier w ∷ tokens) t

-- Terms stand there.
pub record TermsRead (room : ℕ) (bs : List ℕ) (ts : List Term) (rest : List ℕ) : Type 0 where
  pub tokens : List Token
  pub begins : Begins bs tokens rest
  pub spells : SpellsTerms room tokens ts

-- Terms and a closing parenthesis stand there.
pub record ClosedTermsRead (room : ℕ) (bs : List ℕ) (ts : List Term) (rest : List ℕ) : Type 0 where
  pub tokens : List Token
  pub begins : Begins bs (tokens ++ Close ∷ []) rest
  pub spells : SpellsTerms room tokens ts

-- A part stands there.
pub record PartRead (room : ℕ) (bs : List ℕ) (s : Sent) (rest : List ℕ) : Type 0 where
  pub tokens : List Token
  pub begins : Begins bs tokens rest
  pub spells : SpellsPart room tokens s

-- Behind these tokens stands what makes them a part.
pub record PartBehind (front : List Token) (room : ℕ) (bs : List ℕ) (s : Sent) (rest : List ℕ) : Type 0 where
  pub tokens : List Token
  pub begins : Begins bs tokens rest
  pub spells : SpellsPart room (front ++ tokens) s

-- Parts stand there, with the sign between them; with the first one before them they are these.
pub record ChainRead (k : Token) (room : ℕ) (bs : List ℕ) (first : Sent) (all : List Sent) (rest : List ℕ) : Type 0 where
  pub others : List Sent
  pub is : all ≡ first ∷ others
  pub tokens : List Token
  pub begins : Begins bs tokens rest
  pub spells : SpellsParts k room tokens others

-- A sentence stands there.
pub record SentenceRead (room : ℕ) (bs : List ℕ) (s : Sent) (rest : List ℕ) : Type 0 where
  pub tokens : List Token
  pub begins : Begins bs tokens rest
  pub spells : Spells room tokens s
