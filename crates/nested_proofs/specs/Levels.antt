-- The scope, read off flat lines by their levels.
use Rattle.std.specs.Prelude.{ℕ, ◌+◌, ◌-◌, ◌==◌, nat_le, nat_lt, ◌&&◌, if◌then◌else◌, List, [], ◌∷◌, ◌++◌, length, filter, Option, Some, None}
use Rattle.fol_core.specs.declared.sent.Sent.{Sent}
use Rattle.fol_core.specs.Word.{Word}
use Rattle.deriv_laws.specs.declared.rule.Rule.{Rule}
use Rattle.deriv_laws.specs.declared.line.FlatLine.{FlatLine}
use Rattle.nested_proofs.specs.Items.{opens}
use Rattle.nested_proofs.specs.Scope.{Numbered, Subproof, prepend}

-- The level of a line of depth d with this rule: the depth of the list in which the line, or the subproof
-- that it opens, is an item.
abbrev pub level_at : Rule → ℕ → ℕ
level_at rule d = if opens rule then d - 1 else d

-- The level of a line.
abbrev pub level : FlatLine → ℕ
level l = level_at l.rule l.depth

-- The depth of a line.
abbrev pub depth_of : FlatLine → ℕ
depth_of l = l.depth

-- A line with its number and the lines after it.
pub record Mark : Type 0 where
  pub number : ℕ
  pub line : FlatLine
  pub later : List FlatLine

-- The marks of a rank up to v. The rank is the depth, for what may be cited as a line, or the level, for subproofs.
abbrev pub in_reach : (FlatLine → ℕ) → ℕ → List Mark → List Mark
in_reach rank v = filter (λ m. nat_le (rank m.line) v)

-- A line's number with the marks that are in reach of it, the latest first.
pub record Reach : Type 0 where
  pub number : ℕ
  pub marks : List Mark

-- For each of the lines, numbered from k on, with `more` after them, what is in reach of it: the marks
-- from before, and those of the lines so far. A mark stays in reach until a line of a lower level than its rank.
abbrev pub reaches : (FlatLine → ℕ) → ℕ → List Mark → List FlatLine → List FlatLine → List Reach
reaches rank k ms [] more = []
reaches rank k ms (l ∷ ls) more =
    record { number = k; marks = in_reach rank (level l) ms }
    ∷ reaches rank (k + 1) (record { number = k; line = l; later = ls ++ more } ∷ in_reach rank (level l) ms) ls more

-- The marks that are left after the lines.
abbrev pub after : (FlatLine → ℕ) → ℕ → List Mark → List FlatLine → List FlatLine → List Mark
after rank k ms [] more = ms
after rank k ms (l ∷ ls) more = after rank (k + 1) (record { number = k; line = l; later = ls ++ more } ∷ in_reach rank (level l) ms) ls more

-- The sentence with this number, where there is one.
abbrev pub numbered : ℕ → Option Sent → Option Numbered
numbered k None = None
numbered k (Some s) = Some (record { number = k; sentence = s })

-- The sentences of the marked lines.
abbrev pub sentences_of : List Mark → List Numbered
sentences_of [] = []
sentences_of (m ∷ ms) = prepend (numbered m.number m.line.sentence) (sentences_of ms)

-- The lines at the front that stand in a subproof of this depth.
abbrev pub body_of : ℕ → List FlatLine → List FlatLine
body_of d [] = []
body_of d (l ∷ ls) = if nat_le d (level l) then l ∷ body_of d ls else []

-- The sentence of the last of the lines that has this depth, or else the one before.
abbrev pub last_at : ℕ → Option Sent → List FlatLine → Option Sent
last_at d before [] = before
last_at d before (l ∷ ls) = last_at d (if l.depth == d then l.sentence else before) ls

-- The subproof that a marked line opens: it ends before the first later line that leaves it.
abbrev pub subproof_of : Mark → Subproof
subproof_of m = let inner : List FlatLine = body_of m.line.depth m.later in
    record { first = m.number; last = m.number + length inner; boxed = m.line.boxed; hypothesis = m.line.sentence; conclusion = last_at m.line.depth m.line.sentence inner }

-- The subproofs that marked lines open and that are closed before line j.
abbrev pub subproofs_before : ℕ → List Mark → List Subproof
subproofs_before j [] = []
subproofs_before j (m ∷ ms) = if opens m.line.rule && nat_lt (subproof_of m).last j then subproof_of m ∷ subproofs_before j ms else subproofs_before j ms

-- The constants that marked lines box.
abbrev pub boxes_of : List Mark → List Word
boxes_of [] = []
boxes_of (m ∷ ms) = if opens m.line.rule then prepend m.line.boxed (boxes_of ms) else boxes_of ms
