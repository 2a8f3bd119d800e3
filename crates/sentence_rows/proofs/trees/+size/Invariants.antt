use Rattle.std.proofs.Common.{◌≡◌, min, take, length}
use Rattle.std.specs.List.{flat_map}
use Rattle.deriv_laws.specs.Trees.{nodes}
use Rattle.sentence_rows.proofs.trees.+size.Given as goal

abbrev pub invariant-size_of_all-loop-part : goal.invariant-size_of_all-loop-part
invariant-size_of_all-loop-part l = l.count ≡ min (length (flat_map nodes (take l.part-index l.parts))) 4294967295
