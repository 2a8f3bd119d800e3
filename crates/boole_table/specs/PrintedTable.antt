-- How a table is printed, and which tables are read back.
use Rattle.std.specs.Prelude.{◌≡◌, ℕ, List, [], ◌∷◌, ◌++◌, length, map, ◌<◌}
use Rattle.std.specs.List.{flat_map, AllByRecursion}
use Rattle.fol_core.specs.declared.sent.Sent.{Sent}
use Rattle.fol_text.specs.Printed.{printed, separated}
use Rattle.fitch_file.specs.PrintedProof.{HasReadableText}
use Rattle.boole_table.specs.declared.table.TableRow.{TableRow}
use Rattle.boole_table.specs.declared.table.Table.{Table}
use Rattle.boole_table.specs.declared.table.TableText.{TableText}
use Rattle.boole_table.specs.Asked.{Differ}
use Rattle.boole_table.specs.ListLines.{letters_word, sentences_word}
use Rattle.boole_table.specs.RowLines.{value_byte}
use Rattle.boole_table.specs.TableLines.{table_header}

-- A keyword, and behind a space the sentences with ` ; ` between them. Where there is no sentence, the keyword alone.
abbrev pub list_text : List ℕ → List Sent → List ℕ
list_text word [] = word
list_text word (s ∷ ss) = word ++ 32 ∷ separated (32 ∷ 59 ∷ 32 ∷ []) (map printed (s ∷ ss))

-- A row: the letters' values, a bar, and the sentences' values, with one space between two of them.
abbrev pub row_text : TableRow → List ℕ
row_text row = flat_map (λ b. value_byte b ∷ 32 ∷ []) row.letters ++ 124 ∷ flat_map (λ b. 32 ∷ value_byte b ∷ []) row.sentences

-- The rows, each with a line feed behind it.
abbrev pub rows_text : List TableRow → List ℕ
rows_text rows = flat_map (λ row. row_text row ++ 10 ∷ []) rows

-- The header, the letters, the sentences and the rows, each with a line feed behind it.
abbrev pub printed_table : Table → List ℕ
printed_table t = table_header ++ 10 ∷ (list_text letters_word t.letters ++ 10 ∷ (list_text sentences_word t.sentences ++ 10 ∷ rows_text t.rows))

-- The row has a value for each of so many letters and so many sentences.
pub record HasValues (letters sentences : ℕ) (row : TableRow) : Type 0 where
  pub letters_are : length row.letters ≡ letters
  pub sentences_are : length row.sentences ≡ sentences

-- The table is read back from its text: it has a sentence, its letters differ, each row has a value for each letter and each
-- sentence, and each letter and each sentence is read back from its own text.
pub record IsReadBack (t : Table) : Type 0 where
  pub some : 0 < length t.sentences
  pub differ : Differ t.letters
  pub rows : AllByRecursion (HasValues (length t.letters) (length t.sentences)) t.rows
  pub letters : AllByRecursion HasReadableText t.letters
  pub sentences : AllByRecursion HasReadableText t.sentences

-- The table as a text that answers no question.
abbrev pub without_answers : Table → TableText
without_answers t = record { table = t; answers = [] }
