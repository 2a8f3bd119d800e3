-- A line and a subproof are all that is cited, in either order.
use Rattle.std.proofs.Common.{arith, get_or, false}
use Rattle.deriv_laws.specs.declared.line.Cite.{Cite}
use Rattle.nested_proofs.specs.ReadOff.{sentences_read, subproofs_read, stated_at, subproof_between}
use Rattle.nested_proofs.proofs.CiteCounts.{in_all, pair_of}
use Rattle.rules_quant.proofs.Citing.{one_of_each, sub_first, line_first, from_each}
use Rattle.rules_quant.proofs.rules.by_arbitrary_instance.Goals as goal

pub returns-in_default : goal.returns-in_default
returns-in_default c = absurd (omega (arith, c.in_default.len_below, in_all c.args.cites.now 1 1 (one_of_each c.args.cites.now c.requires.counts)))

pub returns-in_default-2 : goal.returns-in_default-2
returns-in_default-2 c = absurd (omega (arith, c.in_default.len_at_least, in_all c.args.cites.now 1 1 (one_of_each c.args.cites.now c.requires.counts)))

pub returns-then-one : goal.returns-then-one
returns-then-one c = record {
  exact =
      let ls = c.args.lines.now in
      let cs = c.args.cites.now in
      let d : Cite = record { first = 0; last = 0; sub = false } in
      let n = one_of_each cs c.requires.counts in
      let w = sub_first ls cs (get_or cs 0 d) (get_or cs 1 d) (pair_of cs d (in_all cs 1 1 n)) n.0 n.1 c.if-one.true in
      from_each (stated_at ls (get_or cs 1 d).first) (subproof_between ls (get_or cs 0 d).first (get_or cs 0 d).last) (sentences_read ls cs) (subproofs_read ls cs) c.args.s.now c.from_instance.result w.0 w.1 c.from_instance.ensures.exact;
}

pub returns-else-one : goal.returns-else-one
returns-else-one c = record {
  exact =
      let ls = c.args.lines.now in
      let cs = c.args.cites.now in
      let d : Cite = record { first = 0; last = 0; sub = false } in
      let n = one_of_each cs c.requires.counts in
      let w = line_first ls cs (get_or cs 0 d) (get_or cs 1 d) (pair_of cs d (in_all cs 1 1 n)) n.0 n.1 c.if-one.false in
      from_each (stated_at ls (get_or cs 0 d).first) (subproof_between ls (get_or cs 1 d).first (get_or cs 1 d).last) (sentences_read ls cs) (subproofs_read ls cs) c.args.s.now c.from_instance-else-one.result w.0 w.1 c.from_instance-else-one.ensures.exact;
}
