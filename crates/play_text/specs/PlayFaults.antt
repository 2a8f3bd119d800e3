-- The first fault of a text that is no play.
use Rattle.std.specs.Prelude.{◌≡◌, ◌⊎◌, ℕ, ◌+◌, Bool, List, Some}
use Rattle.std.specs.Str.Lines.{lines}
use Rattle.fol_core.specs.declared.sent.Sent.{Sent}
use Rattle.fol_text.specs.declared.fault.ReadFault.{ReadFault}
use Rattle.fol_text.specs.Refusals.{IsRefused}
use Rattle.physical_lines.specs.Physical.{AreBlank, IsHeader}
use Rattle.physical_lines.specs.Leading.{LeadsTo}
use Rattle.world_text.specs.declared.reading.WorldFault.{WorldFault}
use Rattle.world_text.specs.WorldText.{world_fault}
use Rattle.play_text.specs.declared.play.PlayFault.{PlayFault}
use Rattle.play_text.specs.declared.play.PlayFault.TheVariants.{Header, Form, Sentence, World}
use Rattle.play_text.specs.Keywords.{IsBehind, Says}
use Rattle.play_text.specs.PlayLines.{play_header, sentence_word, IsSentenceLine, IsCommitLine, IsChoicesLine}
use Rattle.play_text.specs.PlayText.{Next}

-- The line isn't the header.
abbrev pub HeaderFails : List ℕ → PlayFault → Type 0
HeaderFails line fault = (fault ≡ Header) × (IsHeader play_header line → ⊥)

-- The text is no sentence.
abbrev pub IsRefusedText : List ℕ → Type 0
IsRefusedText text = (why : ReadFault) × IsRefused text why

-- The line has no keyword `sentence`, or what stands behind it is refused as a sentence.
abbrev pub SentenceFails : List ℕ → PlayFault → Type 0
SentenceFails line fault =
    ((fault ≡ Form) × ((text : List ℕ) → IsBehind sentence_word line text → ⊥))
    ⊎ ((fault ≡ Sentence) × Says sentence_word IsRefusedText line)

-- The line says no commitment.
abbrev pub CommitFails : List ℕ → PlayFault → Type 0
CommitFails line fault = (fault ≡ Form) × ((b : Bool) → IsCommitLine b line → ⊥)

-- The line says no choices.
abbrev pub ChoicesFails : List ℕ → PlayFault → Type 0
ChoicesFails line fault = (fault ≡ Form) × ((ns : List ℕ) → IsChoicesLine ns line → ⊥)

-- The line says a sentence, a commitment, or choices.
abbrev pub SaysSentence : List ℕ → Type 0
SaysSentence line = (s : Sent) × IsSentenceLine s line

abbrev pub SaysCommit : List ℕ → Type 0
SaysCommit line = (b : Bool) × IsCommitLine b line

abbrev pub SaysChoices : List ℕ → Type 0
SaysChoices line = (ns : List ℕ) × IsChoicesLine ns line

-- The next line that isn't blank is the physical line n, and it has the fault.
pub record IsFaulty (Bad : List ℕ → PlayFault → Type 0) (place : ℕ) (text : List ℕ) (n : ℕ) (fault : PlayFault) : Type 0 where
  pub line : List ℕ
  pub behind : List ℕ
  pub leads : LeadsTo (place + 1) text n line behind
  pub bad : Bad line fault

-- There is no line any more that isn't blank: the one that is wanted is missing one past the line `place`, which is the last
-- one that isn't blank.
pub record IsMissing (missing : PlayFault) (place : ℕ) (text : List ℕ) (n : ℕ) (fault : PlayFault) : Type 0 where
  pub blank : AreBlank (lines text)
  pub past : n ≡ place + 1
  pub is : fault ≡ missing

-- The line that is wanted next has the fault, or is missing.
abbrev pub StopsAt : (List ℕ → PlayFault → Type 0) → PlayFault → ℕ → List ℕ → ℕ → PlayFault → Type 0
StopsAt Bad missing place text n fault = IsFaulty Bad place text n fault ⊎ IsMissing missing place text n fault

-- The line that is wanted next has the fault or is missing; or it is there, and the first fault comes later.
abbrev pub FailsFrom : (List ℕ → Type 0) → (List ℕ → PlayFault → Type 0) → PlayFault → (ℕ → List ℕ → ℕ → PlayFault → Type 0) → ℕ → List ℕ → ℕ → PlayFault → Type 0
FailsFrom Is Bad missing Later place text n fault = StopsAt Bad missing place text n fault ⊎ Next Is (λ m behind. Later m behind n fault) place text

-- The text behind the physical line `place` is no world text. Its first fault is counted on from that line. So where each
-- of its lines is blank, the world's header is missing one past that line, which is the last one that isn't blank.
pub record WorldFails (place : ℕ) (text : List ℕ) (n : ℕ) (fault : PlayFault) : Type 0 where
  pub number : ℕ
  pub why : WorldFault
  pub first : world_fault text ≡ Some (number, why)
  pub counted : n ≡ place + number
  pub is : fault ≡ World why

-- The first fault behind the header, which is the physical line `place`.
abbrev pub FailsBehind : ℕ → List ℕ → ℕ → PlayFault → Type 0
FailsBehind place text n fault =
    FailsFrom SaysSentence SentenceFails Form
    (FailsFrom SaysCommit CommitFails Form
    (FailsFrom SaysChoices ChoicesFails Form
    WorldFails))
    place text n fault

-- The physical line n is the least faulty one, and this is its fault.
abbrev pub IsFirstPlayFault : List ℕ → ℕ → PlayFault → Type 0
IsFirstPlayFault text n fault = FailsFrom (IsHeader play_header) HeaderFails Header FailsBehind 0 text n fault
