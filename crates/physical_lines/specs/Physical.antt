-- Physical lines, of which the blank ones are skipped but counted, and headers.
use Rattle.std.specs.Prelude.{◌≡◌, ℕ, ◌+◌, List, [], ◌∷◌, ◌⊎◌}
use Rattle.std.specs.List.{AllByRecursion}
use Rattle.texts.specs.Blanks.{after_blanks, before_blanks}

-- The line has no byte but blanks.
abbrev pub IsBlankLine : List ℕ → Type 0
IsBlankLine line = after_blanks line ≡ []

-- Each line is blank.
abbrev pub AreBlank : List (List ℕ) → Type 0
AreBlank lines = AllByRecursion IsBlankLine lines

-- `ComesFirst place lines n line rest`: the first of the lines is the physical line `place`. The first of them that isn't
-- blank is this one, the physical line n, and the rest follows it.
pub data ComesFirst : ℕ → List (List ℕ) → ℕ → List ℕ → List (List ℕ) → Type 0 where
  at_once : (place : ℕ) (line : List ℕ) (rest : List (List ℕ)) → (IsBlankLine line → ⊥) → ComesFirst place (line ∷ rest) place line rest
  past_blank : (place : ℕ) (blank : List ℕ) (lines : List (List ℕ)) (n : ℕ) (line : List ℕ) (rest : List (List ℕ)) →
      IsBlankLine blank → ComesFirst (place + 1) lines n line rest → ComesFirst place (blank ∷ lines) n line rest

-- The line is the header, with blanks after it or none.
abbrev pub IsHeader : List ℕ → List ℕ → Type 0
IsHeader header line = before_blanks line ≡ header

-- The first line that isn't blank is the header: the physical line n, counted from 1, before the rest.
pub record IsHeaded (header : List ℕ) (lines : List (List ℕ)) (n : ℕ) (rest : List (List ℕ)) : Type 0 where
  pub line : List ℕ
  pub first : ComesFirst 1 lines n line rest
  pub is : IsHeader header line

-- The first line that isn't blank, the physical line n, is another one.
pub record HasOther (header : List ℕ) (lines : List (List ℕ)) (n : ℕ) : Type 0 where
  pub line : List ℕ
  pub rest : List (List ℕ)
  pub first : ComesFirst 1 lines n line rest
  pub is_other : IsHeader header line → ⊥

-- The header is missing at the physical line n: another line stands there, or each line is blank, and n is 1.
abbrev pub LacksHeader : List ℕ → List (List ℕ) → ℕ → Type 0
LacksHeader header lines n = HasOther header lines n ⊎ (AreBlank lines × (n ≡ 1))
