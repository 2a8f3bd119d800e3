-- What a world keeps: its blocks, for each name the number of the block that has it, and the blocks by what they measure.
use Rattle.std.specs.Prelude.{◌≡◌, ℕ, ◌≤◌, List, length, map}
use Rattle.worlds.specs.declared.block.Block.{Block}
use Rattle.worlds.specs.declared.scales.Scales.{Scales}
use Rattle.worlds.specs.Geometry.{letters}
use Rattle.worlds.specs.Scales.{AreScales}
use Rattle.worlds.specs.Worlds.{IsWorld, bearer}

-- The blocks are a world of at most 64, the numbers are those of the blocks that have the letters a to f, and the scales are
-- those of the blocks.
pub record IsKept (blocks : List Block) (bearers : List ℕ) (scales : Scales) : Type 0 where
  pub world : IsWorld blocks
  pub few : length blocks ≤ 64
  pub named : bearers ≡ map (bearer blocks) letters
  pub measured : AreScales blocks scales
