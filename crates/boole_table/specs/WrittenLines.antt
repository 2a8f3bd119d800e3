-- The physical lines of a text that aren't blank.
use Rattle.std.specs.Prelude.{ℕ, ◌+◌, List, [], ◌∷◌, if◌then◌else◌}
use Rattle.std.specs.Str.Lines.{lines}
use Rattle.texts.specs.Blanks.{after_blanks}
use Rattle.fitch_file.specs.Claim.{is_nothing}

-- A line and its number among the physical lines, counted from 1.
pub record Numbered : Type 0 where
  pub place : ℕ
  pub line : List ℕ

abbrev pub numbered : ℕ → List ℕ → Numbered
numbered n l = record { place = n; line = l }

-- Those of the lines that have a byte beside blanks. The first of the lines has the number n.
abbrev pub written_from : ℕ → List (List ℕ) → List Numbered
written_from n [] = []
written_from n (l ∷ ls) = if is_nothing (after_blanks l) then written_from (n + 1) ls else numbered n l ∷ written_from (n + 1) ls

-- The lines of the text that have a byte beside blanks.
abbrev pub written : List ℕ → List Numbered
written text = written_from 1 (lines text)
