use Rattle.std.proofs.Common.{◌≡◌, drop}
use Rattle.edge_io.specs.MemShelves.{text_under}
use Rattle.edge_io.proofs.mem_shelf.find_text.Given as goal

abbrev pub invariant-loop-label : goal.invariant-loop-label
invariant-loop-label l = text_under (drop l.label-index l.held) l.name ≡ text_under l.held l.name
