-- Rows and columns of a table as numerals to the base of the number of blocks: what terms stand for.
use Rattle.std.specs.Prelude.{ℕ, ◌+◌, ◌*◌, ◌/◌, ◌%◌}
use Rattle.world_truth.specs.declared.digits.Digits.{Digits}
use Rattle.world_truth.specs.declared.digits.Referent.{Referent}
use Rattle.world_truth.specs.declared.digits.Referent.TheVariants.{One, ByRow, ByColumn}

-- The digit of this place value.
abbrev pub digit_of : ℕ → ℕ → ℕ → ℕ
digit_of count stride r = (r / stride) % count

-- The number of the block of a term in a row and a column, in a world of so many blocks.
abbrev pub number_by : ℕ → Referent → ℕ → ℕ → ℕ
number_by count (One number) r c = number
number_by count (ByRow stride) r c = digit_of count stride r + 1
number_by count (ByColumn stride) r c = digit_of count stride c + 1

-- The case of a row: the numeral of its two digits alone.
abbrev pub case_of : ℕ → Digits → ℕ → ℕ
case_of count d r = digit_of count d.high r * count + digit_of count d.low r
