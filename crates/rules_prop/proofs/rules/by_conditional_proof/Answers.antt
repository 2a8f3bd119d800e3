-- One subproof is all that is cited.
use Rattle.std.proofs.Common.{arith}
use Rattle.nested_proofs.proofs.CiteCounts.{in_all}
use Rattle.rules_prop.proofs.Counting.{one_conditional}
use Rattle.rules_prop.proofs.rules.by_conditional_proof.Goals as goal

pub returns-in_default-2 : goal.returns-in_default-2
returns-in_default-2 c = absurd (omega (arith, c.in_default.len_at_least, in_all c.args.cites.now 0 1 (one_conditional c.args.cites.now c.requires.counts)))
