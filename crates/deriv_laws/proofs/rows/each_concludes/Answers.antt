use Rattle.std.proofs.Common.{rules}
use Rattle.deriv_laws.proofs.Repeated.{each_repeats}
use Rattle.deriv_laws.proofs.rows.each_concludes.Goals as goal

pub returns-then-not-same : goal.returns-then-not-same
returns-then-not-same c = let one = each_repeats c.args.trees.now c.loop-tree.tree-index c.tree-item.result c.args.s.now c.loop-tree-test.true c.tree-item.is in search rules
