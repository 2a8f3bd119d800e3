-- Which flat lines are those of a nested proof.
use Rattle.std.specs.Prelude.{◌≡◌, ℕ, ◌+◌, ◌<◌, ◌≤◌, List, [], ◌∷◌, Some, None}
use Rattle.fol_core.specs.declared.sent.Sent.{Sent}
use Rattle.fol_core.specs.Word.{Word}
use Rattle.deriv_laws.specs.declared.rule.Rule.{Rule}
use Rattle.deriv_laws.specs.declared.rule.Rule.TheVariants as r
use Rattle.deriv_laws.specs.declared.line.Cite.{Cite}
use Rattle.deriv_laws.specs.declared.line.FlatLine.{FlatLine}
use Rattle.nested_proofs.specs.Items.{Items, Done, Step, Sub, flatten, AreProper}
use Rattle.nested_proofs.specs.Levels.{level}

-- What a line with this rule has beside it. An assumption has a sentence and no cites, and may box a
-- constant; a box alone has a constant, no sentence and no cites; a premise has a sentence, no box and
-- no cites, and stands outside all subproofs; each other line has a sentence and no box.
abbrev pub IsShaped : FlatLine → Rule → Type 0
IsShaped l r.Assume = (p : Sent) × (l.sentence ≡ Some p) × (l.cites ≡ [])
IsShaped l r.BoxOnly = (c : Word) × (l.boxed ≡ Some c) × (l.sentence ≡ None) × (l.cites ≡ [])
IsShaped l r.Premise = (s : Sent) × (l.sentence ≡ Some s) × (l.boxed ≡ None) × (l.depth ≡ 1) × (l.cites ≡ [])
IsShaped l _ = (s : Sent) × (l.sentence ≡ Some s) × (l.boxed ≡ None)

-- Lines after a line of depth k are well nested where each line has the shape of its rule, and its level
-- is at least 1 and at most the depth of the line before it.
abbrev pub WellNested : ℕ → List FlatLine → Type 0
WellNested k [] = Unit {0}
WellNested k (l ∷ ls) = IsShaped l l.rule × (0 < level l) × (level l ≤ k) × WellNested l.depth ls

-- A step at depth d that is a premise stands outside all subproofs and cites nothing.
abbrev pub IsOutside : ℕ → Rule → List Cite → Type 0
IsOutside d r.Premise cites = (d ≡ 1) × (cites ≡ [])
IsOutside d _ cites = Unit {0}

-- The premises among the items of a list at depth d stand outside all subproofs and cite nothing.
abbrev pub HasPremisesOutside : ℕ → Items → Type 0
HasPremisesOutside d Done = Unit {0}
HasPremisesOutside d (Step s rule cites rest) = IsOutside d rule cites × HasPremisesOutside d rest
HasPremisesOutside d (Sub o body rest) = HasPremisesOutside (d + 1) body × HasPremisesOutside d rest

-- Well-nested lines are the lines of a nested proof.
abbrev pub LinesHaveAProof : Type 0
LinesHaveAProof = (lines : List FlatLine) → WellNested 1 lines → (p : Items) × AreProper p × HasPremisesOutside 1 p × (lines ≡ flatten 1 p)

-- The lines of a nested proof are well nested.
abbrev pub ProofsAreWellNested : Type 0
ProofsAreWellNested = (p : Items) → AreProper p → HasPremisesOutside 1 p → WellNested 1 (flatten 1 p)

-- Lines are those of at most one nested proof.
abbrev pub LinesHaveOneProof : Type 0
LinesHaveOneProof = (p q : Items) → AreProper p → AreProper q → flatten 1 p ≡ flatten 1 q → p ≡ q
