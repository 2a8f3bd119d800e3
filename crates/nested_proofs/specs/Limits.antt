-- The limits of the lines of a proof, and which line may come after them.
use Rattle.std.specs.Prelude.{◌≡◌, ℕ, ◌<◌, ◌≤◌, false, List, [], ◌∷◌, length}
use Rattle.std.specs.List.{AllByRecursion}
use Rattle.deriv_laws.specs.declared.rule.Rule.{Rule}
use Rattle.deriv_laws.specs.declared.rule.Rule.TheVariants as r
use Rattle.deriv_laws.specs.declared.line.Cite.{Cite}
use Rattle.deriv_laws.specs.declared.line.FlatLine.{FlatLine}
use Rattle.nested_proofs.specs.Levels.{level_at}
use Rattle.nested_proofs.specs.Nesting.{WellNested}

-- The numbers of a cite are from 1 to 9999 and in order, and a line is cited by one number.
pub record IsCiteForm (c : Cite) : Type 0 where
  pub from_one : 0 < c.first
  pub in_order : c.first ≤ c.last
  pub four_digits : c.last ≤ 9999
  pub one_number : c.sub ≡ false → c.first ≡ c.last

-- The cites of a line: at most 64, each in form.
pub record AreInForm (cites : List Cite) : Type 0 where
  pub few : length cites ≤ 64
  pub forms : AllByRecursion IsCiteForm cites

-- A line has a depth of at most 30, and cites that are in form.
pub record IsLineForm (l : FlatLine) : Type 0 where
  pub not_deep : l.depth ≤ 30
  pub cites : AreInForm l.cites

-- At most 2,000 lines, well nested, and each in form.
pub record AreLines (lines : List FlatLine) : Type 0 where
  pub few : length lines ≤ 2000
  pub well_nested : WellNested 1 lines
  pub forms : AllByRecursion IsLineForm lines

-- The depth of the last of the lines, or k where there is none.
abbrev pub depth_after : ℕ → List FlatLine → ℕ
depth_after k [] = k
depth_after k (l ∷ ls) = depth_after l.depth ls

-- The depth d fits a line with this rule, after a line of depth k: the level is at least 1 and at most k,
-- a premise stands outside all subproofs, and the depth is at most 30.
pub record DepthFits (k : ℕ) (rule : Rule) (d : ℕ) : Type 0 where
  pub in_a_list : 0 < level_at rule d
  pub not_deeper : level_at rule d ≤ k
  pub premise_outside : rule ≡ r.Premise → d ≡ 1
  pub limit : d ≤ 30
