use Rattle.std.proofs.Common.{rules, arith, leb-true}
use Rattle.bit_sets.proofs.Sets.{ones_all}
use Rattle.bit_sets.proofs.bit_set.BitSet.has_all_of.Goals as goal

pub returns-clause-all : goal.returns-clause-all
returns-clause-all c = λ h. ones_all c.args.self.bits c.args.count (search rules) c.requires (omega (arith, leb-true c.args.count c.trailing_ones.result h, c.trailing_ones.ensures))
