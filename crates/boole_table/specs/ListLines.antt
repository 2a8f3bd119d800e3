-- The lines that list the letters and the sentences of a table.
use Rattle.std.specs.Prelude.{◌≡◌, ◌≢◌, ℕ, List, [], ◌∷◌, codes}
use Rattle.texts.specs.Blanks.{trimmed}
use Rattle.texts.specs.Cuts.{Lacks, IsCut}
use Rattle.fol_core.specs.declared.sent.Sent.{Sent}
use Rattle.fol_text.specs.Readable.{IsReadable}
use Rattle.fitch_file.specs.Declarations.{IsBehind}
use Rattle.boole_table.specs.Asked.{Asked, SuitLetters, SuitSentences}

-- The keywords of the two lines.
abbrev pub letters_word : List ℕ
letters_word = codes "letters"

abbrev pub sentences_word : List ℕ
sentences_word = codes "sentences"

-- The text is these sentences, of which there is one at least, with a semicolon between two of them. Blanks round a sentence
-- aren't part of it.
abbrev pub AreSentences : List ℕ → List Sent → Type 0
AreSentences text [] = ⊥
AreSentences text (s ∷ []) = Lacks 59 text × IsReadable (trimmed text) s
AreSentences text (s ∷ t ∷ ss) = (front : List ℕ) × ((rest : List ℕ) × IsCut 59 text front rest × IsReadable (trimmed front) s × AreSentences rest (t ∷ ss))

-- The text is these letters. Where there is none it is empty.
abbrev pub AreLetters : List ℕ → List Sent → Type 0
AreLetters text [] = text ≡ []
AreLetters text (l ∷ ls) = (text ≢ []) × AreSentences text (l ∷ ls)

-- The line lists these letters, which suit what is asked.
pub record ListsLetters (asked : Asked) (line : List ℕ) (ls : List Sent) : Type 0 where
  pub text : List ℕ
  pub behind : IsBehind letters_word line text
  pub are : AreLetters text ls
  pub suit : SuitLetters asked ls

-- The line lists these sentences, which suit what is asked.
pub record ListsSentences (asked : Asked) (line : List ℕ) (ss : List Sent) : Type 0 where
  pub text : List ℕ
  pub behind : IsBehind sentences_word line text
  pub are : AreSentences text ss
  pub suit : SuitSentences asked ss
