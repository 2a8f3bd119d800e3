-- Numbers that count lines.
use Rattle.std.specs.Prelude.{◌≡◌, ◌<◌, ◌≤◌, ℕ, List, length, slice_index}
use Rattle.std.specs.Fmt.{decimal}

-- The text writes the number, which is from 1 to 9999, in decimal digits without a leading zero.
pub record IsCount (text : List ℕ) (n : ℕ) : Type 0 where
  pub written : text ≡ decimal n
  pub low : 1 ≤ n
  pub high : n ≤ 9999

-- The text has one to four bytes, the first of which is a digit from 1 to 9.
pub record MayCount (text : List ℕ) : Type 0 where
  pub some : 0 < length text
  pub few : length text ≤ 4
  pub low : 49 ≤ slice_index text 0
  pub high : slice_index text 0 ≤ 57
