-- What is visible at a line, by the levels of the lines between.
use Rattle.std.specs.Prelude.{◌≡◌, ℕ, ◌-◌, ◌<◌, nat_le, nat_lt, ◌==◌, Bool, ◌&&◌, if◌then◌else◌, List, [], ◌∷◌, take, drop, map, Option, Some, None}
use Rattle.std.specs.List.{list_all, AllByRecursion}
use Rattle.std.specs.Option.{is_some}
use Rattle.fol_core.specs.declared.sent.Sent.{Sent}
use Rattle.deriv_laws.specs.declared.line.Cite.{Cite}
use Rattle.deriv_laws.specs.declared.line.FlatLine.{FlatLine}
use Rattle.nested_proofs.specs.Items.{Items, opens, flatten, AreProper}
use Rattle.nested_proofs.specs.Scope.{Subproof, sentence_at, subproof_at}
use Rattle.nested_proofs.specs.Placed.{Placed, lines_of}
use Rattle.nested_proofs.specs.CiteTests.{is_boxed}
use Rattle.nested_proofs.specs.Levels.{level, depth_of, Mark, Reach, reaches, subproof_of, boxes_of}

-- None of these lines leaves a subproof of this depth.
abbrev pub stays : ℕ → List FlatLine → Bool
stays d ls = list_all (λ l. nat_le d (level l)) ls

-- The first line's sentence, where none of the next n lines leaves the subproof that the line stands in.
abbrev pub sentence_over : List FlatLine → ℕ → Option Sent
sentence_over [] n = None
sentence_over (l ∷ ls) n = if stays l.depth (take n ls) then l.sentence else None

-- The sentence of line i, where the line is visible at line j: no line after i up to j leaves the
-- subproof that line i stands in. Lines are counted from 1.
abbrev pub visible_sentence : List FlatLine → ℕ → ℕ → Option Sent
visible_sentence lines i j = if nat_lt i j then sentence_over (drop (i - 1) lines) (j - i) else None

-- The subproof that the marked line opens, where its last line is line m and stands before line j.
abbrev pub closed_by : ℕ → ℕ → Mark → Option Subproof
closed_by m j x = if opens x.line.rule && nat_lt (subproof_of x).last j then (if (subproof_of x).last == m then Some (subproof_of x) else None) else None

-- The same for the first of the lines, which is line n, where none of the lines up to j leaves the list
-- in which the subproof is an item.
abbrev pub subproof_over : ℕ → ℕ → ℕ → List FlatLine → Option Subproof
subproof_over n m j [] = None
subproof_over n m j (l ∷ ls) = if stays (level l) (take (j - n) ls) then closed_by m j (record { number = n; line = l; later = ls }) else None

-- The subproof from line n to line m, where it is visible at line j.
abbrev pub visible_subproof : List FlatLine → ℕ → ℕ → ℕ → Option Subproof
visible_subproof lines n m j = if nat_lt n j then subproof_over n m j (drop (n - 1) lines) else None

-- What the cite names is visible at line j.
abbrev pub sees : List FlatLine → ℕ → Cite → Bool
sees lines j c = if c.sub then is_some (visible_subproof lines c.first c.last j) else is_some (visible_sentence lines c.first j)

-- The cite is a subproof that is visible at line j and boxes a constant.
abbrev pub sees_box : List FlatLine → ℕ → Cite → Bool
sees_box lines j c = c.sub && is_boxed (visible_subproof lines c.first c.last j)

-- At each line of a nested proof, the sentences that are visible by the levels are those in scope.
abbrev pub SentencesByLevels : Type 0
SentencesByLevels = (p : Items) (i : ℕ) → AreProper p → 0 < i → AllByRecursion (λ (x : Placed). sentence_at i x.around.scope.sentences ≡ visible_sentence (flatten 1 p) i x.number) (lines_of p)

-- At each line of a nested proof, the subproofs that are visible by the levels are those in scope.
abbrev pub SubproofsByLevels : Type 0
SubproofsByLevels = (p : Items) (n m : ℕ) → AreProper p → 0 < n → AllByRecursion (λ (x : Placed). subproof_at n m x.around.scope.subproofs ≡ visible_subproof (flatten 1 p) n m x.number) (lines_of p)

-- At each line of a nested proof, the boxed constants in reach by the levels are those of the subproofs that the line stands in.
abbrev pub BoxesByLevels : Type 0
BoxesByLevels = (p : Items) → AreProper p → map (λ (x : Reach). boxes_of x.marks) (reaches depth_of 1 [] (flatten 1 p) []) ≡ map (λ (x : Placed). x.around.boxes) (lines_of p)
