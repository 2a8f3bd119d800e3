-- Blocks by what is measured of them.
use Rattle.std.specs.Prelude.{◌≡◌, ℕ, ◌+◌, ◌-◌, ◌<◌, Bool, true, nat_lt, List, [], ◌∷◌, Some}
use Rattle.std.specs.List.{slice_get}
use Rattle.worlds.specs.declared.block.Block.{Block}
use Rattle.bit_sets.specs.declared.bit_set.BitSet.{BitSet}
use Rattle.worlds.specs.declared.scales.Measure.{Measure}
use Rattle.worlds.specs.declared.scales.Measure.TheVariants.{Column, Row, Rank, Faces, Rising, Falling}
use Rattle.worlds.specs.declared.scales.Scales.{Scales}
use Rattle.bit_sets.specs.BitSets.{has}
use Rattle.worlds.specs.Geometry.{faces, rank}

-- What is measured of a block. A diagonal that rises to the right has one difference of row and column, to which eight is
-- added, and one that falls has one sum of them.
abbrev pub measure_of : Measure → Block → ℕ
measure_of Column b = b.column
measure_of Row b = b.row
measure_of Rank b = rank b.size
measure_of Faces b = faces b.shape
measure_of Rising b = b.row + 8 - b.column
measure_of Falling b = b.column + b.row

-- The property holds of each of the first 64 blocks of a world, by the place of the block and the block.
abbrev pub OfEach : List Block → (ℕ → Block → Type 0) → Type 0
OfEach w P = (k : ℕ) (b : Block) → slice_get w k ≡ Some b → k < 64 → P k b

-- Of the first 64 blocks of a world, the set has just those of which the function is true.
abbrev pub IsSetOf : List Block → (Block → Bool) → ℕ → Type 0
IsSetOf w f bits = OfEach w (λ k b. has bits k ≡ f b)

-- The sets are, one after the other, those of the blocks that measure less than n, than n + 1 and so on, as far as some
-- block doesn't measure less.
abbrev pub AreBelow : List Block → (Block → ℕ) → ℕ → List BitSet → Type 0
AreBelow w f n [] = OfEach w (λ k b. nat_lt (f b) n ≡ true)
AreBelow w f n (set ∷ sets) = IsSetOf w (λ b. nat_lt (f b) n) set.bits × AreBelow w f (n + 1) sets

-- The scale of a measure.
abbrev pub scale_at : Scales → Measure → List BitSet
scale_at s Column = s.columns
scale_at s Row = s.rows
scale_at s Rank = s.ranks
scale_at s Faces = s.faces
scale_at s Rising = s.rising
scale_at s Falling = s.falling

-- Each scale begins with the set of the blocks that measure less than 0.
abbrev pub AreScales : List Block → Scales → Type 0
AreScales w s = (m : Measure) → AreBelow w (measure_of m) 0 (scale_at s m)
