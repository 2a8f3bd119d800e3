-- The least faulty physical line of a proof text, and its first fault.
use Rattle.std.specs.Prelude.{ℕ, ◌+◌, List, [], ◌∷◌, ◌++◌}
use Rattle.std.specs.Str.Lines.{lines}
use Rattle.deriv_laws.specs.declared.line.FlatLine.{FlatLine}
use Rattle.physical_lines.specs.Physical.{IsBlankLine, IsHeaded, LacksHeader}
use Rattle.fitch_file.specs.Headers.{proof_header}
use Rattle.fitch_file.specs.Line.{IsLine}
use Rattle.fitch_file.specs.LineFaults.{LineFails}
use Rattle.fitch_file.specs.declared.fault.TextFault.{TextFault}
use Rattle.fitch_file.specs.declared.fault.TextFault.TheVariants.{Header}

-- `LinesFail earlier place texts n fault`: after the earlier lines, the first of the texts is the physical line `place`.
-- Blank lines and proof lines lead to the physical line n, and this is the first test that it fails.
pub data LinesFail : List FlatLine → ℕ → List (List ℕ) → ℕ → TextFault → Type 0 where
  fails_here : (earlier : List FlatLine) (place : ℕ) (text : List ℕ) (texts : List (List ℕ)) (fault : TextFault) →
      (IsBlankLine text → ⊥) → LineFails earlier text fault → LinesFail earlier place (text ∷ texts) place fault
  past_blank : (earlier : List FlatLine) (place : ℕ) (text : List ℕ) (texts : List (List ℕ)) (n : ℕ) (fault : TextFault) →
      IsBlankLine text → LinesFail earlier (place + 1) texts n fault → LinesFail earlier place (text ∷ texts) n fault
  past_line : (earlier : List FlatLine) (place : ℕ) (text : List ℕ) (texts : List (List ℕ)) (l : FlatLine) (n : ℕ) (fault : TextFault) →
      IsLine earlier text l → LinesFail (earlier ++ l ∷ []) (place + 1) texts n fault → LinesFail earlier place (text ∷ texts) n fault

-- The physical line n, counted from 1, is the least faulty one, and this is its first fault.
pub data IsFirstFault : List ℕ → ℕ → TextFault → Type 0 where
  no_header : (text : List ℕ) (n : ℕ) → LacksHeader proof_header (lines text) n → IsFirstFault text n Header
  no_line : (text : List ℕ) (place : ℕ) (rest : List (List ℕ)) (n : ℕ) (fault : TextFault) →
      IsHeaded proof_header (lines text) place rest → LinesFail [] (place + 1) rest n fault → IsFirstFault text n fault
