-- Nested proofs, and the lines that they are written as.
use Rattle.std.specs.Prelude.{◌≡◌, ℕ, Bool, false, ◌+◌, List, [], ◌∷◌, ◌++◌, Option, Some, None}
use Rattle.fol_core.specs.declared.sent.Sent.{Sent}
use Rattle.fol_core.specs.Word.{Word}
use Rattle.deriv_laws.specs.declared.rule.Rule.{Rule}
use Rattle.deriv_laws.specs.declared.rule.Rule.TheVariants as r
use Rattle.deriv_laws.specs.declared.line.Cite.{Cite}
use Rattle.deriv_laws.specs.declared.line.FlatLine.{FlatLine}
use Rattle.nested_proofs.specs.Kinds.{kind_of, opens_subproof}

-- How a subproof begins: with an assumption and a boxed constant or none, or with a boxed constant alone.
pub data Opening : Type 0 where
  Assumes : Option Word → Sent → Opening
  Boxes : Word → Opening

-- A nested proof is a list of items. `Step` is a sentence with its rule and cites, before the other
-- items; `Sub` is a subproof, with how it begins and its own items, before the other items.
pub data Items : Type 0 where
  Done : Items
  Step : Sent → Rule → List Cite → Items → Items
  Sub : Opening → Items → Items → Items

-- The constant that the subproof boxes, if it boxes one.
abbrev pub box_of : Opening → Option Word
box_of (Assumes b p) = b
box_of (Boxes c) = Some c

-- The subproof's assumption, if it has one.
abbrev pub assumption_of : Opening → Option Sent
assumption_of (Assumes b p) = Some p
assumption_of (Boxes c) = None

-- A step as a line of this depth.
abbrev pub step_line : ℕ → Sent → Rule → List Cite → FlatLine
step_line d s rule cites = record { depth = d; boxed = None; sentence = Some s; rule = rule; cites = cites }

-- The opening of a subproof as a line of this depth.
abbrev pub opening_line : ℕ → Opening → FlatLine
opening_line d (Assumes b p) = record { depth = d; boxed = b; sentence = Some p; rule = r.Assume; cites = [] }
opening_line d (Boxes c) = record { depth = d; boxed = Some c; sentence = None; rule = r.BoxOnly; cites = [] }

-- The lines of the items of a list at depth d: a step is a line of this depth, and a subproof is its
-- opening line, one deeper, followed by the lines of its own items at that depth.
abbrev pub flatten : ℕ → Items → List FlatLine
flatten d Done = []
flatten d (Step s rule cites rest) = step_line d s rule cites ∷ flatten d rest
flatten d (Sub o body rest) = opening_line (d + 1) o ∷ flatten (d + 1) body ++ flatten d rest

-- How many lines the items have.
abbrev pub size : Items → ℕ
size Done = 0
size (Step s rule cites rest) = 1 + size rest
size (Sub o body rest) = 1 + size body + size rest

-- A line with this rule opens a subproof.
abbrev pub opens : Rule → Bool
opens rule = opens_subproof (kind_of rule)

-- No step has a rule that opens a subproof.
abbrev pub AreProper : Items → Type 0
AreProper Done = Unit {0}
AreProper (Step s rule cites rest) = (opens rule ≡ false) × AreProper rest
AreProper (Sub o body rest) = AreProper body × AreProper rest
