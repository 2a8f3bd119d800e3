-- One subproof is all that is cited.
use Rattle.std.proofs.Common.{arith, get_or}
use Rattle.nested_proofs.proofs.CiteCounts.{in_all, single}
use Rattle.rules_quant.proofs.Citing.{one_subproof, alone_spoils}
use Rattle.rules_quant.proofs.arbitrary.spoilt_in_conclusion.Goals as goal

pub bounds-cites-0 : goal.bounds-cites-0
bounds-cites-0 c = omega (arith, in_all c.args.cites.now 0 1 (one_subproof c.args.cites.now c.requires.counts))

pub returns : goal.returns
returns c = record {
  exact =
      let cs = c.args.cites.now in
      let n = one_subproof cs c.requires.counts in
      alone_spoils c.box_in.result c.args.lines.now cs (get_or cs 0 _) c.args.s.now (single cs _ (in_all cs 0 1 n)) n.1 c.box_in.ensures.exact;
}
