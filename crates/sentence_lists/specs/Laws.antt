-- What holds of lists of sentences as text.
use Rattle.std.specs.Prelude.{◌≡◌, ℕ, List}
use Rattle.fol_core.specs.declared.sent.Sent.{Sent}
use Rattle.sentence_lists.specs.declared.list.ListFault.{ListFault}
use Rattle.sentence_lists.specs.SentenceLines.{SpellSentences, SpellAtMost, ListFails}

-- The lines are at most one list of sentences.
abbrev pub OneList : Type 0
OneList = (lines : List (List ℕ)) (ss ts : List Sent) → SpellSentences lines ss → SpellSentences lines ts → ss ≡ ts

-- Two faults at two places are one.
pub record IsSameFault (n m : ℕ) (f g : ListFault) : Type 0 where
  pub place : n ≡ m
  pub is : f ≡ g

-- The lines have at most one first fault.
abbrev pub OneFault : Type 0
OneFault = (room place : ℕ) (lines : List (List ℕ)) (n m : ℕ) (f g : ListFault) → ListFails room place lines n f → ListFails room place lines m g → IsSameFault n m f g

-- Lines with a fault are no list of so many sentences.
abbrev pub NeverBoth : Type 0
NeverBoth = (room place : ℕ) (lines : List (List ℕ)) (ss : List Sent) (n : ℕ) (f : ListFault) → SpellAtMost room lines ss → ListFails room place lines n f → ⊥
