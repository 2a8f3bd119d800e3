use Rattle.std.proofs.Common.{rules, w64, ltb-false}
use Rattle.std.specs.Int.{trailing_zeros}
use Rattle.bit_sets.proofs.Sets.{zeros_none}
use Rattle.bit_sets.proofs.bit_set.BitSet.has_one_of.Goals as goal

pub returns-clause-none : goal.returns-clause-none
returns-clause-none c = λ h. zeros_none c.args.self.bits c.args.count (search rules) c.requires (ltb-false (trailing_zeros w64 c.args.self.bits) c.args.count h)
