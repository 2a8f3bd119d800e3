use Rattle.std.proofs.Common.{arith}
use Rattle.world_truth.specs.Work.{units}
use Rattle.world_truth.proofs.Parts.{total_more}
use Rattle.world_truth.proofs.units.+units.Goals as goal

pub units_of_all-loop-part-preserved : goal.units_of_all-loop-part-preserved
units_of_all-loop-part-preserved t c =
    omega (arith, total_more (units c.args.count) c.args.parts.now c.loop-part.part-index c.part-item.result c.loop-part-test.true c.part-item.is)
