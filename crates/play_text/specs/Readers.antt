-- What the readers of one line and of one number answer.
use Rattle.std.specs.Prelude.{◌≡◌, ◌⊎◌, ℕ, ◌+◌, ◌<◌, ◌≤◌, List, [], ◌∷◌, ◌++◌, length, Some, None}
use Rattle.physical_lines.specs.Leading.{LeadsTo}
use Rattle.fol_text.specs.declared.fault.ReadFault.{ReadFault}
use Rattle.fol_text.specs.declared.fault.ReadFault.TheVariants as read_faults
use Rattle.play_text.specs.declared.play.PlayFault.{PlayFault}
use Rattle.play_text.specs.declared.play.PlayFault.TheVariants.{Form, Memory, Sentence}
use Rattle.play_text.specs.PlayFaults.{CommitFails, ChoicesFails, SaysCommit, SaysChoices, FailsFrom, WorldFails}
use Rattle.world_text.specs.BlockLines.{number_of}

-- The next line that isn't blank behind the physical line `place` is this one, the physical line n, and of this kind.
pub record IsNext (Is : List ℕ → Type 0) (place : ℕ) (text : List ℕ) (n : ℕ) (line behind : List ℕ) : Type 0 where
  pub leads : LeadsTo (place + 1) text n line behind
  pub is : Is line

-- What a line is at fault for whose sentence is refused.
abbrev pub said_fault : ReadFault → PlayFault
said_fault read_faults.Memory = Memory
said_fault fault = Sentence

-- The word writes a number, which was put last, and there were fewer than 60.
pub record PutsNumber (word old new : List ℕ) : Type 0 where
  pub number : ℕ
  pub written : number_of word ≡ Some number
  pub room : length old < 60
  pub is : new ≡ old ++ number ∷ []

-- The word writes no number, or there are 60 already.
abbrev pub NumberFails : List ℕ → List ℕ → Type 0
NumberFails word old = (number_of word ≡ None) ⊎ (60 ≤ length old)

-- The first fault from the line of the choices on, and from the commitment's line on.
abbrev pub FailsAtChoices : ℕ → List ℕ → ℕ → PlayFault → Type 0
FailsAtChoices = FailsFrom SaysChoices ChoicesFails Form WorldFails

abbrev pub FailsAtCommit : ℕ → List ℕ → ℕ → PlayFault → Type 0
FailsAtCommit = FailsFrom SaysCommit CommitFails Form FailsAtChoices
