use Rattle.std.proofs.Common.{◌≡◌, take}
use Rattle.worlds.specs.Assignments.{variable_at, own_names}
use Rattle.world_truth.specs.Places.{given}
use Rattle.world_truth.proofs.bound.number_of_place.Given as goal

abbrev pub invariant-loop-place : goal.invariant-loop-place
invariant-loop-place l = l.number ≡ variable_at (given (take l.place-index l.places) (own_names l.world)) l.x
