-- A property of one line of a nested proof, of which the flat lines are given.
use Rattle.std.specs.Prelude.{◌≡◌, ℕ, List, length, map}
use Rattle.std.specs.List.{AllByRecursion, range_with_len}
use Rattle.deriv_laws.specs.declared.line.FlatLine.{FlatLine}
use Rattle.nested_proofs.specs.Items.{Items, flatten, AreProper}
use Rattle.nested_proofs.specs.Placed.{Placed, lines_of}

-- In the nested proof that has these lines, line j has the property. Lines are counted from 1.
abbrev pub AtLine : List FlatLine → ℕ → (Placed → Type 0) → Type 0
AtLine lines j P = (p : Items) → AreProper p → lines ≡ flatten 1 p → AllByRecursion (λ (x : Placed). x.number ≡ j → P x) (lines_of p)

-- The placed lines of a nested proof are its lines, numbered from 1 on; so each of its lines is placed once.
abbrev pub LinesArePlaced : Type 0
LinesArePlaced = (p : Items) → (map (λ (x : Placed). x.line) (lines_of p) ≡ flatten 1 p) × (map (λ (x : Placed). x.number) (lines_of p) ≡ range_with_len 1 (length (flatten 1 p)))
