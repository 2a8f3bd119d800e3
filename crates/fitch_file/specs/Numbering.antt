-- The number of a proof line, and its bars.
use Rattle.std.specs.Prelude.{◌≡◌, ℕ, ◌+◌, ◌≤◌, Bool, true, not, ◌==◌, List, [], ◌∷◌, ◌++◌, if◌then◌else◌}
use Rattle.std.specs.Fmt.{decimal}
use Rattle.texts.specs.Blanks.{is_blank}
use Rattle.fol_core.specs.Word.{is_digit}

-- A number before these bytes ends there: the text is over, or its next byte is no digit.
abbrev pub ends_number : List ℕ → Bool
ends_number [] = true
ends_number (b ∷ bs) = not (is_digit b)

-- The text begins with the number, in decimal digits without a leading zero, and the body follows.
pub record IsNumbered (number : ℕ) (text body : List ℕ) : Type 0 where
  pub written : text ≡ decimal number ++ body
  pub ends : ends_number body ≡ true

-- How many bars the text begins with. Blanks may stand before each of them.
abbrev pub bars : List ℕ → ℕ
bars [] = 0
bars (b ∷ bs) = if b == 124 then 1 + bars bs else (if is_blank b then bars bs else 0)

-- The text behind those bars, without the blanks that it begins with.
abbrev pub after_bars : List ℕ → List ℕ
after_bars [] = []
after_bars (b ∷ bs) = if b == 124 then after_bars bs else (if is_blank b then after_bars bs else b ∷ bs)

-- So many bars are the depth of a line: one for the outer proof, and at most 30.
pub record IsDepth (depth : ℕ) : Type 0 where
  pub some : 1 ≤ depth
  pub few : depth ≤ 30
