-- The first line of a text that isn't blank, with the text behind it.
use Rattle.std.specs.Prelude.{ℕ, ◌+◌, List}
use Rattle.texts.specs.Lines.{IsFirstLine}
use Rattle.physical_lines.specs.Physical.{IsBlankLine}

-- `LeadsTo place text n line rest`: the text begins with the physical line `place`. Its first line that isn't blank is this
-- one, the physical line n, and the rest follows it.
pub data LeadsTo : ℕ → List ℕ → ℕ → List ℕ → List ℕ → Type 0 where
  leads_here : (place : ℕ) (text line rest : List ℕ) → IsFirstLine text line rest → (IsBlankLine line → ⊥) → LeadsTo place text place line rest
  leads_on : (place : ℕ) (text blank after : List ℕ) (n : ℕ) (line rest : List ℕ) → IsFirstLine text blank after → IsBlankLine blank → LeadsTo (place + 1) after n line rest → LeadsTo place text n line rest
