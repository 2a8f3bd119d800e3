-- A line and a subproof are all that is cited, in either order.
use Rattle.std.proofs.Common.{arith, get_or, false, sym, ap, ◌∙◌, []}
use Rattle.std.specs.Prelude.{Option}
use Rattle.std.specs.Option.{option_copied}
use Rattle.fol_core.specs.declared.sent.Sent.{Sent}
use Rattle.deriv_laws.specs.declared.line.Cite.{Cite}
use Rattle.nested_proofs.specs.Scope.{prepend}
use Rattle.nested_proofs.specs.ReadOff.{sentences_read, subproofs_read, subproof_between}
use Rattle.nested_proofs.proofs.CiteCounts.{in_all, pair_of}
use Rattle.rules_quant.proofs.Citing.{one_of_each, sub_first, line_first, spoils_ex}
use Rattle.rules_quant.proofs.arbitrary.spoilt_in_either.Goals as goal

pub bounds-cites-0 : goal.bounds-cites-0
bounds-cites-0 c = omega (arith, in_all c.args.cites.now 1 1 (one_of_each c.args.cites.now c.requires.counts))

pub bounds-cites-1 : goal.bounds-cites-1
bounds-cites-1 c = omega (arith, in_all c.args.cites.now 1 1 (one_of_each c.args.cites.now c.requires.counts))

pub returns-then-one : goal.returns-then-one
returns-then-one c = record {
  exact =
      let ls = c.args.lines.now in
      let cs = c.args.cites.now in
      let d : Cite = record { first = 0; last = 0; sub = false } in
      let n = one_of_each cs c.requires.counts in
      let w = sub_first ls cs (get_or cs 0 d) (get_or cs 1 d) (pair_of cs d (in_all cs 1 1 n)) n.0 n.1 c.if-one.true in
      spoils_ex c.box_in.result (subproof_between ls (get_or cs 0 d).first (get_or cs 0 d).last) (option_copied c.cited_sentence.result) c.args.s.now (sentences_read ls cs) (subproofs_read ls cs)
      (w.0 ∙ ap (λ (o : Option Sent). prepend o []) (sym c.cited_sentence.ensures.value)) w.1 c.box_in.ensures.exact;
}

pub returns-else-one : goal.returns-else-one
returns-else-one c = record {
  exact =
      let ls = c.args.lines.now in
      let cs = c.args.cites.now in
      let d : Cite = record { first = 0; last = 0; sub = false } in
      let n = one_of_each cs c.requires.counts in
      let w = line_first ls cs (get_or cs 0 d) (get_or cs 1 d) (pair_of cs d (in_all cs 1 1 n)) n.0 n.1 c.if-one.false in
      spoils_ex c.box_in-else-one.result (subproof_between ls (get_or cs 1 d).first (get_or cs 1 d).last) (option_copied c.cited_sentence-else-one.result) c.args.s.now (sentences_read ls cs) (subproofs_read ls cs)
      (w.0 ∙ ap (λ (o : Option Sent). prepend o []) (sym c.cited_sentence-else-one.ensures.value)) w.1 c.box_in-else-one.ensures.exact;
}
