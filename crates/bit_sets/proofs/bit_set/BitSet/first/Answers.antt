use Rattle.std.proofs.Common.{rules}
use Rattle.bit_sets.proofs.Sets.{first_before}
use Rattle.bit_sets.proofs.bit_set.BitSet.first.Goals as goal

pub returns-clause-before : goal.returns-clause-before
returns-clause-before c = first_before c.args.self.bits (search rules)
