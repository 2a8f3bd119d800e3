-- What the reader of a world keeps: the squares and the names that are taken.
use Rattle.std.specs.Prelude.{◌≡◌, ℕ, ◌==◌, true, List, map, Option, Some, None}
use Rattle.std.specs.List.{find, list_all, range_with_len}
use Rattle.worlds.specs.declared.block.Block.{Block}
use Rattle.world_text.specs.declared.squares.Squares.{Squares}
use Rattle.world_text.specs.declared.line.Said.{Said as ReadSaid}
use Rattle.worlds.specs.Geometry.{bears, square, is_on_board}
use Rattle.worlds.specs.Worlds.{AreSingle}
use Rattle.world_text.specs.BlockLines.{Said}
use Rattle.world_text.specs.WorldText.{is_name_taken}

-- The board holds the blocks: each square has the block that stands on it, each name of a block is taken, each block stands
-- on the board, and a name is borne by at most one of them.
pub record Holds (blocks : List Block) (board : Squares) : Type 0 where
  pub squares : board.squares ≡ map (λ q. find (λ b. square b == q) blocks) (range_with_len 0 64)
  pub names : (l : ℕ) → bears board.taken l ≡ is_name_taken blocks l
  pub on_board : list_all is_on_board blocks ≡ true
  pub single : AreSingle blocks

-- The board holds some blocks.
abbrev pub HoldsSome : Squares → Type 0
HoldsSome board = (blocks : List Block) × Holds blocks board

-- What was read of a line, without the place in memory where its first word stands.
abbrev pub as_said : ReadSaid → Said
as_said s = record { names = s.names.now; shape = s.shape; size = s.size; column = s.column; row = s.row }

abbrev pub said_as : Option ReadSaid → Option Said
said_as None = None
said_as (Some s) = Some (as_said s)
