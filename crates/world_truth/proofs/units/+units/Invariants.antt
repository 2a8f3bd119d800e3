use Rattle.std.proofs.Common.{◌≡◌, min, take, map}
use Rattle.fol_core.specs.Size.{total}
use Rattle.world_truth.specs.Work.{units}
use Rattle.world_truth.proofs.units.+units.Given as goal

abbrev pub invariant-units_of_all-loop-part : goal.invariant-units_of_all-loop-part
invariant-units_of_all-loop-part l = l.total ≡ min (total (map (units l.count) (take l.part-index l.parts))) 18446744073709551615
