-- The lines of a play text that come before its world.
use Rattle.std.specs.Prelude.{◌≡◌, ◌≤◌, ℕ, Bool, true, false, List, length, map, codes, Some}
use Rattle.fol_core.specs.declared.sent.Sent.{Sent}
use Rattle.fol_text.specs.Readable.{IsReadable}
use Rattle.world_text.specs.Lines.{words}
use Rattle.world_text.specs.BlockLines.{number_of}
use Rattle.play_text.specs.Keywords.{Says}

-- The header, and the keywords of the three lines behind it.
abbrev pub play_header : List ℕ
play_header = codes "play 1"

abbrev pub sentence_word : List ℕ
sentence_word = codes "sentence"

abbrev pub commit_word : List ℕ
commit_word = codes "commit"

abbrev pub choices_word : List ℕ
choices_word = codes "choices"

-- The word of a truth value.
abbrev pub truth_word : Bool → List ℕ
truth_word true = codes "true"
truth_word false = codes "false"

-- The words of the text write these numbers in order, each in one to four digits, and there are at most 60.
pub record IsChoices (text ns : List ℕ) : Type 0 where
  pub written : map number_of (words text) ≡ map Some ns
  pub few : length ns ≤ 60

-- The line is `sentence` and a text that spells the sentence.
abbrev pub IsSentenceLine : Sent → List ℕ → Type 0
IsSentenceLine s line = Says sentence_word (λ text. IsReadable text s) line

-- The line is `commit` and the word of the truth value.
abbrev pub IsCommitLine : Bool → List ℕ → Type 0
IsCommitLine b line = Says commit_word (λ text. text ≡ truth_word b) line

-- The line is `choices` and the numbers.
abbrev pub IsChoicesLine : List ℕ → List ℕ → Type 0
IsChoicesLine ns line = Says choices_word (λ text. IsChoices text ns) line
