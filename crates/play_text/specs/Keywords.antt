-- What a line says behind its keyword.
use Rattle.std.specs.Prelude.{◌≡◌, ℕ, Bool, true, List, [], ◌∷◌, ◌++◌}
use Rattle.texts.specs.Blanks.{is_blank, trimmed}

-- The text is over, or a blank is next.
abbrev pub ends_word : List ℕ → Bool
ends_word [] = true
ends_word (b ∷ bs) = is_blank b

-- The line is the keyword alone, or the keyword, a blank and the text. Blanks at the ends of the text aren't part of it.
pub record IsBehind (keyword line text : List ℕ) : Type 0 where
  pub tail : List ℕ
  pub begins : line ≡ keyword ++ tail
  pub parted : ends_word tail ≡ true
  pub is : text ≡ trimmed tail

-- The line is the keyword and a text of which this holds.
pub record Says (keyword : List ℕ) (Holds : List ℕ → Type 0) (line : List ℕ) : Type 0 where
  pub text : List ℕ
  pub behind : IsBehind keyword line text
  pub holds : Holds text
