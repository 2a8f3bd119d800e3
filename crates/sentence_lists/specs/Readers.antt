-- What the reader of one line answers.
use Rattle.std.specs.Prelude.{◌≡◌, ◌⊎◌, ℕ, ◌<◌, ◌≤◌, List, [], ◌∷◌, ◌++◌, length}
use Rattle.fol_core.specs.declared.sent.Sent.{Sent}
use Rattle.fol_text.specs.declared.fault.ReadFault.{ReadFault}
use Rattle.physical_lines.specs.Physical.{IsBlankLine}
use Rattle.sentence_lists.specs.declared.list.ListFault.{ListFault}
use Rattle.sentence_lists.specs.declared.list.ListFault.TheVariants.{Sentence, TooManySentences}
use Rattle.sentence_lists.specs.SentenceLines.{IsSentenceLine, IsRefusedLine}

-- The line was blank and nothing was put, or it was a sentence, which was put last.
abbrev pub PutsLine : ℕ → List ℕ → List Sent → List Sent → Type 0
PutsLine most line old new = (IsBlankLine line × (new ≡ old)) ⊎ ((s : Sent) × IsSentenceLine line s × (length old < most) × (new ≡ old ++ s ∷ []))

-- The line is refused as a sentence, or it is a sentence and there are as many as may be.
abbrev pub LineFails : ℕ → List ℕ → List Sent → ListFault → Type 0
LineFails most line old fault = ((why : ReadFault) × (fault ≡ Sentence why) × IsRefusedLine line why) ⊎ ((s : Sent) × (fault ≡ TooManySentences) × IsSentenceLine line s × (most ≤ length old))
