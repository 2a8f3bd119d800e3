-- One subproof is all that is cited.
use Rattle.std.proofs.Common.{arith, get_or}
use Rattle.nested_proofs.proofs.CiteCounts.{in_all, single}
use Rattle.rules_quant.proofs.Citing.{one_subproof, general_cited}
use Rattle.rules_quant.proofs.rules.by_general_proof.Goals as goal

pub returns-in-len1 : goal.returns-in-len1
returns-in-len1 c = record {
  exact =
      let cs = c.args.cites.now in
      let n = one_subproof cs c.requires.counts in
      general_cited c.args.lines.now cs (get_or cs 0 _) c.args.s.now c.is_general.result (single cs _ (in_all cs 0 1 n)) n.1 c.is_general.ensures.exact;
}

pub returns-in_default-2 : goal.returns-in_default-2
returns-in_default-2 c = absurd (omega (arith, c.in_default.len_at_least, in_all c.args.cites.now 0 1 (one_subproof c.args.cites.now c.requires.counts)))
