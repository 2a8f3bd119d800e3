-- How the code finds the subproof around a line: by the last line before it of a lower level.
use Rattle.std.specs.Prelude.{◌≡◌, ℕ, zero, suc, nat_lt, Bool, false, if◌then◌else◌, List, length, slice_get, slice_index, Option, Some, None}
use Rattle.deriv_laws.specs.declared.line.FlatLine.{FlatLine}
use Rattle.nested_proofs.specs.Levels.{level}

-- There is a line, and its level is below d.
abbrev pub is_below : ℕ → Option FlatLine → Bool
is_below d None = false
is_below d (Some l) = nat_lt (level l) d

-- The number of the last of the first k lines whose level is below d, or 0 where there is none. Where d is
-- the level of line k, this line opens the subproof in which line k, or the subproof that it opens, is an item.
abbrev pub last_below : ℕ → List FlatLine → ℕ → ℕ
last_below d ls zero = zero
last_below d ls (suc k) = if is_below d (slice_get ls k) then suc k else last_below d ls k

-- An index of the lines: for each line, the number of the last line before it of a lower level.
pub record IsIndex (ls : List FlatLine) (index : List ℕ) : Type 0 where
  pub same_length : length index ≡ length ls
  pub lower : (k : ℕ) (l : FlatLine) → slice_get ls k ≡ Some l → slice_index index k ≡ last_below (level l) ls k
