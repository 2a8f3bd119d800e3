-- What stands for variables in a table: in a row and a column of it.
use Rattle.std.specs.Prelude.{ℕ, ◌+◌, ◌/◌, ◌%◌, List, length}
use Rattle.worlds.specs.declared.block.Block.{Block}
use Rattle.world_truth.specs.declared.bound.Bound.{Bound, fold-Bound}
use Rattle.world_truth.specs.declared.bound.Bound.TheOpen.{Bound-F}
use Rattle.world_truth.specs.declared.bound.Bound.TheOpen as f
use Rattle.worlds.specs.Assignments.{Assignment, put, own_names}
use Rattle.world_truth.specs.Places.{given}

-- One quantifier's variable, put over what stands further out. A row and a column are numerals to the base of the number of
-- blocks. A variable that goes by columns stands for the block of the column's last digit, and what stands further out goes
-- by the column without that digit; and so it is with rows.
abbrev pub standing_step : List Block → Bound-F (ℕ → ℕ → Assignment) → ℕ → ℕ → Assignment
standing_step w (f.Given places) r c = given places.now (own_names w)
standing_step w (f.One x m rest) r c = put x.now m (rest.now r c)
standing_step w (f.ByRow x rest) r c = put x.now (r % length w + 1) (rest.now (r / length w) c)
standing_step w (f.ByColumn x rest) r c = put x.now (c % length w + 1) (rest.now r (c / length w))

-- What all terms stand for in a row and a column.
abbrev pub standing : Bound → List Block → ℕ → ℕ → Assignment
standing bound w = fold-Bound (ℕ → ℕ → Assignment) (standing_step w) bound
