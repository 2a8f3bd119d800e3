-- The lines of the board through one block.
use Rattle.std.specs.Prelude.{◌≡◌, ℕ, ◌≤◌, Bool, false, ◌||◌, ◌==◌, if◌then◌else◌, List, length, Option, None, Some}
use Rattle.std.specs.List.{slice_get}
use Rattle.world_truth.specs.declared.betweenness.Lines.{Lines}
use Rattle.worlds.specs.declared.block.Block.{Block}
use Rattle.worlds.specs.declared.scales.Measure.{Measure}
use Rattle.worlds.specs.declared.scales.Measure.TheVariants.{Column, Row, Rising, Falling}
use Rattle.bit_sets.specs.BitSets.{has}
use Rattle.worlds.specs.Scales.{measure_of, IsSetOf}
use Rattle.worlds.specs.Worlds.{block_at, IsWorld}

-- The second block measures the same as the first one, if there is a first one.
abbrev pub measures_same : Measure → Option Block → Block → Bool
measures_same measure None x = false
measures_same measure (Some b) x = measure_of measure x == measure_of measure b

-- In a world, the block of the number has this place, the sets are those of the blocks in its row, in its column and in its
-- diagonals, and one set has them all.
pub record AreLines (w : List Block) (number : ℕ) (l : Lines) : Type 0 where
  pub world : IsWorld w
  pub few : length w ≤ 64
  pub place : (b : Block) → block_at w number ≡ Some b → slice_get w l.place ≡ Some b
  pub all : (k : ℕ) → has l.all.bits k ≡ (has l.row.bits k || has l.column.bits k || has l.rising.bits k || has l.falling.bits k)
  pub row : IsSetOf w (measures_same Row (block_at w number)) l.row.bits
  pub column : IsSetOf w (measures_same Column (block_at w number)) l.column.bits
  pub rising : IsSetOf w (measures_same Rising (block_at w number)) l.rising.bits
  pub falling : IsSetOf w (measures_same Falling (block_at w number)) l.falling.bits

-- The bits of the line that has the other place in it; none where no line has it.
abbrev pub line_at : Lines → ℕ → ℕ
line_at l other =
    if has l.all.bits other then (if has l.row.bits other then l.row.bits else if has l.column.bits other then l.column.bits else if has l.rising.bits other then l.rising.bits else l.falling.bits) else 0
