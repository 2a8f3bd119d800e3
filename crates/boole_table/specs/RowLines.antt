-- The lines that are rows of a table.
use Rattle.std.specs.Prelude.{◌≡◌, ℕ, Bool, true, false, not, List, [], ◌∷◌, ◌++◌, length, map, filter}
use Rattle.texts.specs.Blanks.{is_blank}
use Rattle.boole_table.specs.declared.table.TableRow.{TableRow}

-- A truth value is the letter T or F.
abbrev pub value_byte : Bool → ℕ
value_byte true = 84
value_byte false = 70

-- The bytes of a row without blanks: the letters' values, a bar, and the sentences' values.
abbrev pub row_bytes : TableRow → List ℕ
row_bytes row = map value_byte row.letters ++ 124 ∷ map value_byte row.sentences

-- The text without its blanks, wherever they stand.
abbrev pub without_blanks : List ℕ → List ℕ
without_blanks text = filter (λ b. not (is_blank b)) text

-- The text begins with a blank.
abbrev pub begins_blank : List ℕ → Bool
begins_blank [] = false
begins_blank (b ∷ bs) = is_blank b

-- The line is this row, with so many letters and so many sentences. Blanks may stand anywhere but before it.
pub record IsRow (letters sentences : ℕ) (line : List ℕ) (row : TableRow) : Type 0 where
  pub begins : begins_blank line ≡ false
  pub bytes : without_blanks line ≡ row_bytes row
  pub letters_are : length row.letters ≡ letters
  pub sentences_are : length row.sentences ≡ sentences
