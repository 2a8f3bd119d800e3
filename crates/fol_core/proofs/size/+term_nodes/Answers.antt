use Rattle.std.proofs.Common.{arith}
use Rattle.fol_core.specs.Size.{term_nodes}
use Rattle.fol_core.proofs.Parts.{total_more}
use Rattle.fol_core.proofs.size.+term_nodes.Goals as goal

pub nodes_of_terms-loop-term-preserved : goal.nodes_of_terms-loop-term-preserved
nodes_of_terms-loop-term-preserved t c =
    omega (arith, total_more term_nodes c.args.terms.now c.loop-term.term-index c.term-item.result c.loop-term-test.true c.term-item.is)
