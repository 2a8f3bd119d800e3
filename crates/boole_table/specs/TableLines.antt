-- Tables as text.
use Rattle.std.specs.Prelude.{◌≡◌, ℕ, List, [], ◌∷◌, ◌++◌, length, codes, Contains, ◌⊎◌}
use Rattle.fol_core.specs.declared.sent.Sent.{Sent}
use Rattle.physical_lines.specs.Physical.{IsHeader}
use Rattle.boole_table.specs.declared.table.TableRow.{TableRow}
use Rattle.boole_table.specs.declared.table.TableAnswer.{TableAnswer}
use Rattle.boole_table.specs.declared.table.TableText.{TableText}
use Rattle.boole_table.specs.WrittenLines.{Numbered, written}
use Rattle.boole_table.specs.Asked.{Asked}
use Rattle.boole_table.specs.ListLines.{ListsLetters, ListsSentences}
use Rattle.boole_table.specs.RowLines.{IsRow}
use Rattle.boole_table.specs.AnswerLines.{IsAnswer}

-- The header of a table text.
abbrev pub table_header : List ℕ
table_header = codes "table 1"

-- What the rows and the answers of a text must suit: what is asked, and the numbers of letters and of sentences.
pub record Form : Type 0 where
  pub asked : Asked
  pub letters : ℕ
  pub sentences : ℕ

abbrev pub form_of : Asked → List Sent → List Sent → Form
form_of asked ls ss = record { asked = asked; letters = length ls; sentences = length ss }

-- The line is one row more, and no question was answered before it.
pub record AddsRow (form : Form) (answered : List ℕ) (line : List ℕ) (row : TableRow) : Type 0 where
  pub none : answered ≡ []
  pub is : IsRow form.letters form.sentences line row

-- The line is one answer more, to a question that wasn't answered before it.
pub record AddsAnswer (form : Form) (answered : List ℕ) (line : List ℕ) (answer : TableAnswer) : Type 0 where
  pub is : IsAnswer form.asked line answer
  pub once : Contains answered answer.question → ⊥

-- Behind the answers to some questions, the lines are these rows, and then these answers.
abbrev pub SpellBody : Form → List ℕ → List Numbered → List TableRow → List TableAnswer → Type 0
SpellBody form answered [] rows answers = (rows ≡ []) × (answers ≡ [])
SpellBody form answered (l ∷ ls) rows answers =
    ((row : TableRow) × ((more : List TableRow) × AddsRow form answered l.line row × (rows ≡ row ∷ more) × SpellBody form [] ls more answers))
    ⊎ ((answer : TableAnswer) × ((more : List TableAnswer) × AddsAnswer form answered l.line answer × (answers ≡ answer ∷ more)
    × SpellBody form (answered ++ answer.question ∷ []) ls rows more))

-- The text is this table with these answers: of the lines that aren't blank the first is the header, the second lists the
-- letters, the third lists the sentences, and the others are the rows and then the answers.
pub record SpellsTable (asked : Asked) (text : List ℕ) (t : TableText) : Type 0 where
  pub header : Numbered
  pub letters_line : Numbered
  pub sentences_line : Numbered
  pub body : List Numbered
  pub are : written text ≡ header ∷ letters_line ∷ sentences_line ∷ body
  pub headed : IsHeader table_header header.line
  pub letters : ListsLetters asked letters_line.line t.table.letters
  pub sentences : ListsSentences asked sentences_line.line t.table.sentences
  pub others : SpellBody (form_of asked t.table.letters t.table.sentences) [] body t.table.rows t.answers
