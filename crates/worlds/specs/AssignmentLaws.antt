-- What holds of assignments to blocks of a world.
use Rattle.std.specs.Prelude.{◌≡◌, ◌<◌, ℕ, true, List, length}
use Rattle.fol_core.specs.Word.{Word}
use Rattle.fol_core.specs.declared.sent.Term.{Term}
use Rattle.worlds.specs.declared.block.Block.{Block}
use Rattle.worlds.specs.Assignments.{Assignment, AreBlocks, is_number, number_at, put, own_names}

-- In a world that isn't empty, each term stands for a block of the world.
abbrev pub TermsStandForBlocks : Type 0
TermsStandForBlocks = (w : List Block) (a : Assignment) (t : Term) → 0 < length w → AreBlocks w a → is_number w (number_at a t) ≡ true

-- To put a block of the world for a variable leaves an assignment to blocks of the world.
abbrev pub PutKeepsBlocks : Type 0
PutKeepsBlocks = (w : List Block) (a : Assignment) (x : Word) (k : ℕ) → is_number w k ≡ true → AreBlocks w a → AreBlocks w (put x k a)

-- In a world that isn't empty, its own names are such an assignment.
abbrev pub OwnNamesAreBlocks : Type 0
OwnNamesAreBlocks = (w : List Block) → 0 < length w → AreBlocks w (own_names w)
