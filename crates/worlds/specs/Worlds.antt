-- Worlds of blocks: a list of blocks in the order of their squares.
use Rattle.std.specs.Prelude.{◌≡◌, ◌⊎◌, ℕ, ◌+◌, ◌-◌, Bool, true, ◌&&◌, List, [], ◌∷◌, length, Option, nat_lt, if◌then◌else◌}
use Rattle.std.specs.List.{slice_get, list_all, list_any, range_with_len}
use Rattle.fol_core.specs.Word.{Word}
use Rattle.worlds.specs.declared.block.Block.{Block}
use Rattle.worlds.specs.Geometry.{bears, square, is_on_board, is_named}

-- Each block stands on a later square than the one before it, so no two stand on one square.
abbrev pub in_order : List Block → Bool
in_order [] = true
in_order (b ∷ bs) = list_all (λ c. nat_lt (square b) (square c)) bs && in_order bs

-- The block is one of the listed ones.
abbrev pub IsOneOf : List Block → Block → Type 0
IsOneOf [] b = ⊥
IsOneOf (c ∷ cs) b = (c ≡ b) ⊎ IsOneOf cs b

-- A name is borne by at most one of the blocks.
abbrev pub AreSingle : List Block → Type 0
AreSingle w = (l : ℕ) (b c : Block) → IsOneOf w b → IsOneOf w c → bears b.names l ≡ true → bears c.names l ≡ true → b ≡ c

-- A list of blocks is a world: each stands on the board, they come in the order of their squares, and a name is borne by at
-- most one of them.
pub record IsWorld (w : List Block) : Type 0 where
  pub on_board : list_all is_on_board w ≡ true
  pub ordered : in_order w ≡ true
  pub single : AreSingle w

-- The block of a number: the blocks are numbered from 1, in their order.
abbrev pub block_at : List Block → ℕ → Option Block
block_at w k = slice_get w (k - 1)

-- The numbers of all blocks.
abbrev pub numbers : List Block → List ℕ
numbers w = range_with_len 1 (length w)

-- The number of the first block that has the name, where the first block of the list is block n; 1 where none has it.
abbrev pub bearer_from : ℕ → List Block → ℕ → ℕ
bearer_from n [] l = 1
bearer_from n (b ∷ bs) l = if bears b.names l then n else bearer_from (n + 1) bs l

-- The number of the block that has the name; 1 where no block has it.
abbrev pub bearer : List Block → ℕ → ℕ
bearer w l = bearer_from 1 w l

-- Some block of the world has the name.
abbrev pub is_borne : List Block → Word → Bool
is_borne w n = list_any (is_named n) w
