-- Two subproofs are all that is cited.
use Rattle.std.proofs.Common.{arith, get_or}
use Rattle.nested_proofs.proofs.CiteCounts.{in_all, pair_of}
use Rattle.rules_prop.proofs.Counting.{two_ways}
use Rattle.rules_prop.proofs.Showing.{both_shown}
use Rattle.rules_prop.proofs.rules.by_both_ways.Goals as goal

pub returns-in-len2 : goal.returns-in-len2
returns-in-len2 c = record {
  exact =
      let cs = c.args.cites.now in
      let n = two_ways cs c.requires.counts in
      both_shown c.args.lines.now cs (get_or cs 0 _) (get_or cs 1 _) c.args.s.now c.leads_both_ways.result (pair_of cs _ (in_all cs 0 2 n)) n.1 c.leads_both_ways.ensures.exact;
}

pub returns-in_default : goal.returns-in_default
returns-in_default c = absurd (omega (arith, c.in_default.len_below, in_all c.args.cites.now 0 2 (two_ways c.args.cites.now c.requires.counts)))

pub returns-in_default-2 : goal.returns-in_default-2
returns-in_default-2 c = absurd (omega (arith, c.in_default.len_at_least, in_all c.args.cites.now 0 2 (two_ways c.args.cites.now c.requires.counts)))
