use Rattle.std.specs.Prelude.{◌≡◌, ◌<◌, ◌/◌, ℕ}
use Rattle.worlds.specs.Assignments.{variable_at}
use Rattle.world_truth.specs.inside.Bound.{standing}
use Rattle.world_truth.proofs.bound.referent_of_variable.Given as goal

abbrev pub invariant-loop-outer : goal.invariant-loop-outer
invariant-loop-outer l = (r c : ℕ) → r < 512 → c < 64 → variable_at (standing l.outer l.world (r / l.row) (c / l.column)) l.x ≡ variable_at (standing l.fn.bound l.world r c) l.x
