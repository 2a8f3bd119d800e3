use Rattle.std.proofs.Common.{sym, rules}
use Rattle.fol_core.specs.Alike.{repl}
use Rattle.fol_core.proofs.Replacing.{pairs_more, pairs_fail}
use Rattle.fol_core.proofs.replacement.+replaces.Goals as goal

pub replaces_all-returns-then-not-replaces : goal.replaces_all-returns-then-not-replaces
replaces_all-returns-then-not-replaces t c = record { value = sym (pairs_fail (repl c.args.n.now c.args.m.now) _ _ _ _ _ c.loop-i-test.true c.loop-i.invariant.long c.index-a-i.is c.index-b-i.is (search rules)) }

pub replaces_all-loop-i-preserved : goal.replaces_all-loop-i-preserved
replaces_all-loop-i-preserved t c = record { long = c.loop-i.invariant.long; begun = pairs_more (repl c.args.n.now c.args.m.now) _ _ _ _ _ c.loop-i-test.true c.loop-i.invariant.long c.index-a-i.is c.index-b-i.is c.loop-i.invariant.begun (search rules) }
