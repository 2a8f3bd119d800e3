use Rattle.std.proofs.Common.{◌≡◌, min, take, map}
use Rattle.fol_core.specs.Size.{nodes, total}
use Rattle.fol_core.proofs.size.+nodes.Given as goal

abbrev pub invariant-nodes_of_all-loop-part : goal.invariant-nodes_of_all-loop-part
invariant-nodes_of_all-loop-part l = l.total ≡ min (total (map nodes (take l.part-index l.parts))) 4294967295
