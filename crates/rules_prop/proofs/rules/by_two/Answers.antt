-- Two lines are all that is cited.
use Rattle.std.proofs.Common.{arith, sym}
use Rattle.nested_proofs.proofs.CiteCounts.{in_all, pair_of}
use Rattle.rules_prop.proofs.Counting.{two_lines}
use Rattle.rules_prop.proofs.Showing.{one_missing}
use Rattle.rules_prop.proofs.rules.by_two.Goals as goal

pub returns-in_default : goal.returns-in_default
returns-in_default c = absurd (omega (arith, c.in_default.len_below, in_all c.args.cites.now 2 0 (two_lines c.args.rule c.args.cites.now c.requires.rule c.requires.counts)))

pub returns-in_default-2 : goal.returns-in_default-2
returns-in_default-2 c = absurd (omega (arith, c.in_default.len_at_least, in_all c.args.cites.now 2 0 (two_lines c.args.rule c.args.cites.now c.requires.rule c.requires.counts)))

pub returns-in_default-cited_sentence : goal.returns-in_default-cited_sentence
returns-in_default-cited_sentence c = record {
  exact =
      let cs = c.args.cites.now in
      let n = two_lines c.args.rule cs c.requires.rule c.requires.counts in
      (λ i. absurd (cc), λ f. absurd (one_missing c.args.rule c.args.lines.now cs _ _ c.args.s.now c.requires.rule (pair_of cs _ (in_all cs 2 0 n)) n.1 (sym c.in_default-cited_sentence.ensures.value) f));
}
