-- Lists of sentences as text: a sentence a line, with blank lines anywhere.
use Rattle.std.specs.Prelude.{ℕ, suc, ◌+◌, ◌≤◌, List, [], ◌∷◌, length}
use Rattle.fol_core.specs.declared.sent.Sent.{Sent}
use Rattle.fol_text.specs.declared.fault.ReadFault.{ReadFault}
use Rattle.fol_text.specs.Readable.{IsReadable}
use Rattle.fol_text.specs.Refusals.{IsRefused}
use Rattle.texts.specs.Blanks.{trimmed}
use Rattle.physical_lines.specs.Physical.{IsBlankLine}
use Rattle.sentence_lists.specs.declared.list.ListFault.{ListFault}
use Rattle.sentence_lists.specs.declared.list.ListFault.TheVariants.{Sentence, TooManySentences}

-- The line isn't blank, and without the blanks at its ends it is the sentence.
pub record IsSentenceLine (line : List ℕ) (s : Sent) : Type 0 where
  pub written : IsBlankLine line → ⊥
  pub readable : IsReadable (trimmed line) s

-- The line isn't blank, and without the blanks at its ends it is no sentence: this is its first refusal.
pub record IsRefusedLine (line : List ℕ) (fault : ReadFault) : Type 0 where
  pub written : IsBlankLine line → ⊥
  pub refused : IsRefused (trimmed line) fault

-- The lines are these sentences in order, with blank lines anywhere among them.
pub data SpellSentences : List (List ℕ) → List Sent → Type 0 where
  no_more : SpellSentences [] []
  blank_line : (line : List ℕ) (lines : List (List ℕ)) (ss : List Sent) → IsBlankLine line → SpellSentences lines ss → SpellSentences (line ∷ lines) ss
  sentence_line : (line : List ℕ) (lines : List (List ℕ)) (s : Sent) (ss : List Sent) → IsSentenceLine line s → SpellSentences lines ss → SpellSentences (line ∷ lines) (s ∷ ss)

-- The lines are these sentences, and there are at most so many.
pub record SpellAtMost (most : ℕ) (lines : List (List ℕ)) (ss : List Sent) : Type 0 where
  pub spell : SpellSentences lines ss
  pub few : length ss ≤ most

-- `ListFails room place lines n fault`: where so many sentences more may come, and the first of the lines is the physical
-- line `place`, the physical line n is the least faulty one. It is refused as a sentence, or it is one sentence too many.
pub data ListFails : ℕ → ℕ → List (List ℕ) → ℕ → ListFault → Type 0 where
  refused_line : (room place : ℕ) (line : List ℕ) (lines : List (List ℕ)) (fault : ReadFault) → IsRefusedLine line fault → ListFails room place (line ∷ lines) place (Sentence fault)
  one_too_many : (place : ℕ) (line : List ℕ) (lines : List (List ℕ)) (s : Sent) → IsSentenceLine line s → ListFails 0 place (line ∷ lines) place TooManySentences
  past_blank : (room place : ℕ) (line : List ℕ) (lines : List (List ℕ)) (n : ℕ) (fault : ListFault) →
      IsBlankLine line → ListFails room (place + 1) lines n fault → ListFails room place (line ∷ lines) n fault
  past_sentence : (room place : ℕ) (line : List ℕ) (lines : List (List ℕ)) (s : Sent) (n : ℕ) (fault : ListFault) →
      IsSentenceLine line s → ListFails room (place + 1) lines n fault → ListFails (suc room) place (line ∷ lines) n fault
