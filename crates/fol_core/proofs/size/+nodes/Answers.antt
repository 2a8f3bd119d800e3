use Rattle.std.proofs.Common.{arith}
use Rattle.fol_core.specs.Size.{nodes}
use Rattle.fol_core.proofs.Parts.{total_more}
use Rattle.fol_core.proofs.size.+nodes.Goals as goal

pub nodes_of_all-loop-part-preserved : goal.nodes_of_all-loop-part-preserved
nodes_of_all-loop-part-preserved t c =
    omega (arith, total_more nodes c.args.parts.now c.loop-part.part-index c.part-item.result c.loop-part-test.true c.part-item.is)
