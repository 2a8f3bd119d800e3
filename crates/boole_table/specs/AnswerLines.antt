-- The lines that answer a question of an exercise.
use Rattle.std.specs.Prelude.{◌≡◌, ℕ, eqb, ◌<◌, ◌≤◌, Bool, true, false, List, length, slice_index, codes}
use Rattle.std.specs.List.{starts_with}
use Rattle.std.specs.Str.Parse.{AllDigits, digits_value}
use Rattle.texts.specs.Blanks.{trimmed}
use Rattle.fitch_file.specs.Words.{first_word, behind_word}
use Rattle.fitch_file.specs.Declarations.{IsBehind}
use Rattle.boole_table.specs.declared.table.TableAnswer.{TableAnswer}
use Rattle.boole_table.specs.Asked.{Asked, SuitsQuestion}

-- The keyword before an answer.
abbrev pub answer_word : List ℕ
answer_word = codes "answer"

-- The line begins with the keyword.
abbrev pub begins_answer : List ℕ → Bool
begins_answer line = starts_with eqb line answer_word

-- The text is the number in one to four decimal digits, of which the first ones may be 0.
pub record IsNumber (text : List ℕ) (n : ℕ) : Type 0 where
  pub some : 0 < length text
  pub few : length text ≤ 4
  pub digits : AllDigits 10 text
  pub is : n ≡ digits_value 10 text

-- The text has one to four bytes, the first of which is a digit.
pub record MayNumber (text : List ℕ) : Type 0 where
  pub some : 0 < length text
  pub few : length text ≤ 4
  pub low : 48 ≤ slice_index text 0
  pub high : slice_index text 0 ≤ 57

-- Yes and no in words.
abbrev pub yes_word : Bool → List ℕ
yes_word true = codes "yes"
yes_word false = codes "no"

-- The line is this answer: the keyword, the number of the question, and yes or no, with blanks between them.
pub record IsAnswer (asked : Asked) (line : List ℕ) (answer : TableAnswer) : Type 0 where
  pub text : List ℕ
  pub behind : IsBehind answer_word line text
  pub number : IsNumber (first_word text) answer.question
  pub said : trimmed (behind_word text) ≡ yes_word answer.yes
  pub suits : SuitsQuestion asked answer.question
