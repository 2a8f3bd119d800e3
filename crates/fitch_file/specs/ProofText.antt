-- Proofs as text.
use Rattle.std.specs.Prelude.{ℕ, List, [], ◌∷◌, ◌++◌}
use Rattle.std.specs.Str.Lines.{lines}
use Rattle.deriv_laws.specs.declared.line.FlatLine.{FlatLine}
use Rattle.physical_lines.specs.Physical.{IsBlankLine, IsHeaded}
use Rattle.fitch_file.specs.Headers.{proof_header}
use Rattle.fitch_file.specs.Line.{IsLine}

-- `SpellLines earlier texts ls`: after the earlier lines, the physical lines are these proof lines in order, with blank
-- lines anywhere among them.
pub data SpellLines : List FlatLine → List (List ℕ) → List FlatLine → Type 0 where
  no_more : (earlier : List FlatLine) → SpellLines earlier [] []
  blank_line : (earlier : List FlatLine) (text : List ℕ) (texts : List (List ℕ)) (ls : List FlatLine) →
      IsBlankLine text → SpellLines earlier texts ls → SpellLines earlier (text ∷ texts) ls
  proof_line : (earlier : List FlatLine) (text : List ℕ) (texts : List (List ℕ)) (l : FlatLine) (ls : List FlatLine) →
      IsLine earlier text l → SpellLines (earlier ++ l ∷ []) texts ls → SpellLines earlier (text ∷ texts) (l ∷ ls)

-- The text is the header and then these proof lines.
pub record SpellsProof (text : List ℕ) (ls : List FlatLine) : Type 0 where
  pub place : ℕ
  pub rest : List (List ℕ)
  pub headed : IsHeaded proof_header (lines text) place rest
  pub spell : SpellLines [] rest ls
