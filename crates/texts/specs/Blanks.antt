-- Blanks: the spaces and tabs at the ends of a text, which mean nothing.
use Rattle.std.specs.Prelude.{◌≡◌, ℕ, Bool, true, ◌||◌, ◌==◌, List, [], ◌∷◌, if◌then◌else◌}

-- a space or a tab
abbrev pub is_blank : ℕ → Bool
is_blank b = b == 32 || b == 9

-- The text is a blank and the rest.
pub record BeginsBlank (text rest : List ℕ) : Type 0 where
  pub blank : ℕ
  pub is : is_blank blank ≡ true
  pub begins : text ≡ blank ∷ rest

-- the text from its first byte on that is no blank
abbrev pub after_blanks : List ℕ → List ℕ
after_blanks [] = []
after_blanks (b ∷ bs) = if is_blank b then after_blanks bs else b ∷ bs

-- the byte and the text after it, which ends in no blank; but a blank with nothing after it is left out
abbrev pub unless_blank : ℕ → List ℕ → List ℕ
unless_blank b [] = if is_blank b then [] else b ∷ []
unless_blank b (c ∷ cs) = b ∷ c ∷ cs

-- the text up to its last byte that is no blank
abbrev pub before_blanks : List ℕ → List ℕ
before_blanks [] = []
before_blanks (b ∷ bs) = unless_blank b (before_blanks bs)

-- the text without the blanks at its ends
abbrev pub trimmed : List ℕ → List ℕ
trimmed bs = before_blanks (after_blanks bs)
