use Rattle.std.proofs.Common.{◌≡◌, min, take, map}
use Rattle.fol_core.specs.Size.{term_nodes, total}
use Rattle.fol_core.proofs.size.+term_nodes.Given as goal

abbrev pub invariant-nodes_of_terms-loop-term : goal.invariant-nodes_of_terms-loop-term
invariant-nodes_of_terms-loop-term l = l.total ≡ min (total (map term_nodes (take l.term-index l.terms))) 4294967295
