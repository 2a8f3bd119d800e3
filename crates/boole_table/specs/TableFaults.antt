-- The least faulty physical line of a table text, and its fault.
use Rattle.std.specs.Prelude.{◌≡◌, ℕ, ◌+◌, List, [], ◌∷◌, ◌++◌, ◌⊎◌, if◌then◌else◌}
use Rattle.fol_core.specs.declared.sent.Sent.{Sent}
use Rattle.physical_lines.specs.Physical.{IsHeader}
use Rattle.boole_table.specs.declared.fault.TableTextFault.{TableTextFault}
use Rattle.boole_table.specs.declared.fault.TableTextFault.TheVariants.{Header, Letters, Sentences, Row, Answer}
use Rattle.boole_table.specs.declared.table.TableRow.{TableRow}
use Rattle.boole_table.specs.declared.table.TableAnswer.{TableAnswer}
use Rattle.boole_table.specs.WrittenLines.{Numbered, written}
use Rattle.boole_table.specs.Asked.{Asked}
use Rattle.boole_table.specs.ListLines.{ListsLetters, ListsSentences}
use Rattle.boole_table.specs.AnswerLines.{begins_answer}
use Rattle.boole_table.specs.TableLines.{Form, form_of, AddsRow, AddsAnswer, table_header}

-- A line that begins with `answer` fails as an answer, and each other one as a row.
abbrev pub line_fault : List ℕ → TableTextFault
line_fault line = if begins_answer line then Answer else Row

-- The line is neither one row more nor one answer more.
pub record AddsNothing (form : Form) (answered : List ℕ) (line : List ℕ) : Type 0 where
  pub no_row : (row : TableRow) → AddsRow form answered line row → ⊥
  pub no_answer : (answer : TableAnswer) → AddsAnswer form answered line answer → ⊥

-- Behind the answers to some questions, rows and answers lead to the physical line n, which is neither, and this is its fault.
abbrev pub BodyFails : Form → List ℕ → List Numbered → ℕ → TableTextFault → Type 0
BodyFails form answered [] n fault = ⊥
BodyFails form answered (l ∷ ls) n fault =
    ((n ≡ l.place) × (fault ≡ line_fault l.line) × AddsNothing form answered l.line)
    ⊎ ((row : TableRow) × (AddsRow form answered l.line row × BodyFails form [] ls n fault))
    ⊎ ((answer : TableAnswer) × (AddsAnswer form answered l.line answer × BodyFails form (answered ++ answer.question ∷ []) ls n fault))

-- Behind the line that lists the letters, the next one that isn't blank lists no sentences; or a line behind it fails. Where
-- there is no such line, the fault stands one past the line before.
abbrev pub SentencesFail : Asked → List Sent → ℕ → List Numbered → ℕ → TableTextFault → Type 0
SentencesFail asked letters before [] n fault = (n ≡ before + 1) × (fault ≡ Sentences)
SentencesFail asked letters before (l ∷ ls) n fault =
    ((n ≡ l.place) × (fault ≡ Sentences) × ((ss : List Sent) → ListsSentences asked l.line ss → ⊥))
    ⊎ ((ss : List Sent) × (ListsSentences asked l.line ss × BodyFails (form_of asked letters ss) [] ls n fault))

-- Behind the header, the next line that isn't blank lists no letters; or a line behind it fails.
abbrev pub LettersFail : Asked → ℕ → List Numbered → ℕ → TableTextFault → Type 0
LettersFail asked before [] n fault = (n ≡ before + 1) × (fault ≡ Letters)
LettersFail asked before (l ∷ ls) n fault =
    ((n ≡ l.place) × (fault ≡ Letters) × ((letters : List Sent) → ListsLetters asked l.line letters → ⊥))
    ⊎ ((letters : List Sent) × (ListsLetters asked l.line letters × SentencesFail asked letters l.place ls n fault))

-- The first line that isn't blank is no header; or a line behind it fails.
abbrev pub HeaderFails : Asked → List Numbered → ℕ → TableTextFault → Type 0
HeaderFails asked [] n fault = (n ≡ 1) × (fault ≡ Header)
HeaderFails asked (l ∷ ls) n fault =
    ((n ≡ l.place) × (fault ≡ Header) × (IsHeader table_header l.line → ⊥))
    ⊎ (IsHeader table_header l.line × LettersFail asked l.place ls n fault)

-- The physical line n, counted from 1, is the least faulty one of the text, and this is its fault.
abbrev pub IsFirstTableFault : Asked → List ℕ → ℕ → TableTextFault → Type 0
IsFirstTableFault asked text n fault = HeaderFails asked (written text) n fault
