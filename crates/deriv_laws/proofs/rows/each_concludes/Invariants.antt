use Rattle.std.proofs.Common.{◌≡◌, take, map, replicate}
use Rattle.deriv_laws.specs.Trees.{concl}
use Rattle.deriv_laws.proofs.rows.each_concludes.Given as goal

abbrev pub invariant-loop-tree : goal.invariant-loop-tree
invariant-loop-tree l = map concl (take l.tree-index l.trees) ≡ replicate l.tree-index l.s
