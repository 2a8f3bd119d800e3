-- What the parts of the reader of tables answer, each about the piece of text that it is given.
use Rattle.std.specs.Prelude.{◌≡◌, ℕ, Bool, true, not, ◌||◌, ◌==◌, List, [], ◌∷◌, ◌++◌, map, ◌⊎◌}
use Rattle.texts.specs.Blanks.{is_blank}
use Rattle.fol_core.specs.declared.sent.Sent.{Sent}
use Rattle.boole_table.specs.declared.asked.Asked.{Asked as Given}
use Rattle.boole_table.specs.declared.asked.Asked.TheVariants.{Any, Exercise}
use Rattle.boole_table.specs.declared.body.Form.{Form as GivenForm}
use Rattle.boole_table.specs.declared.body.Body.{Body}
use Rattle.boole_table.specs.declared.table.TableRow.{TableRow}
use Rattle.boole_table.specs.declared.table.TableAnswer.{TableAnswer}
use Rattle.boole_table.specs.declared.table.TableText.{TableText}
use Rattle.boole_table.specs.WrittenLines.{Numbered}
use Rattle.boole_table.specs.Asked.{Asked, any_table, exercise}
use Rattle.boole_table.specs.ListLines.{ListsLetters, ListsSentences}
use Rattle.boole_table.specs.TableLines.{Form, form_of, AddsRow, AddsAnswer, SpellBody}

-- What is asked, without where it lies in memory.
abbrev pub asked_by : Given → Asked
asked_by Any = any_table
asked_by (Exercise letters sentences questions) = exercise letters.now sentences.now questions

abbrev pub form_by : GivenForm → Form
form_by form = record { asked = asked_by form.asked; letters = form.letters; sentences = form.sentences }

-- The byte is a truth value.
abbrev pub is_value : ℕ → Bool
is_value b = b == 84 || b == 70

-- The text is over, or its first byte is neither a blank nor a truth value.
abbrev pub stops : List ℕ → Bool
stops [] = true
stops (b ∷ bs) = not (is_blank b || is_value b)

-- The numbers of the questions that the answers are to.
abbrev pub questions_of : List TableAnswer → List ℕ
questions_of answers = map (λ (a : TableAnswer). a.question) answers

-- Behind the rows and the answers before it, the line is one row or one answer more.
abbrev pub Adds : Form → Body → List ℕ → Body → Type 0
Adds form before line after =
    ((row : TableRow) × (AddsRow form (questions_of before.answers) line row × (after.rows ≡ before.rows ++ row ∷ []) × (after.answers ≡ before.answers)))
    ⊎ ((answer : TableAnswer) × (AddsAnswer form (questions_of before.answers) line answer × (after.rows ≡ before.rows) × (after.answers ≡ before.answers ++ answer ∷ [])))

-- Behind the line that lists these letters, the lines are the sentences, the rows and the answers of the table text.
pub record SpellsFromSentences (asked : Asked) (letters : List Sent) (ls : List Numbered) (t : TableText) : Type 0 where
  pub sentences_line : Numbered
  pub body : List Numbered
  pub are : ls ≡ sentences_line ∷ body
  pub kept : t.table.letters ≡ letters
  pub sentences : ListsSentences asked sentences_line.line t.table.sentences
  pub others : SpellBody (form_of asked letters t.table.sentences) [] body t.table.rows t.answers

-- Behind the header, the lines are the letters, the sentences, the rows and the answers of the table text.
pub record SpellsFromLetters (asked : Asked) (ls : List Numbered) (t : TableText) : Type 0 where
  pub letters_line : Numbered
  pub rest : List Numbered
  pub letters : List Sent
  pub are : ls ≡ letters_line ∷ rest
  pub lists : ListsLetters asked letters_line.line letters
  pub others : SpellsFromSentences asked letters rest t
