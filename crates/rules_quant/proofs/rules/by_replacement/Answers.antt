-- Two lines are all that is cited.
use Rattle.std.proofs.Common.{arith, sym, ap₂, ◌∙◌, ◌∷◌, []}
use Rattle.std.specs.Prelude.{Option}
use Rattle.fol_core.specs.declared.sent.Sent.{Sent}
use Rattle.deriv_laws.specs.declared.rule.Rule.TheVariants as r
use Rattle.nested_proofs.specs.Scope.{prepend}
use Rattle.nested_proofs.specs.ReadOff.{sentences_read, subproofs_read}
use Rattle.nested_proofs.proofs.CiteCounts.{in_all, pair_of}
use Rattle.nested_proofs.proofs.ReadCites.{read_as}
use Rattle.nested_proofs.proofs.ReadCites.{no_subproofs}
use Rattle.nested_proofs.proofs.ReadCites.{two_read}
use Rattle.rules_quant.proofs.Citing.{two_lines, one_missing}
use Rattle.rules_quant.proofs.rules.by_replacement.Goals as goal

pub returns-in_default : goal.returns-in_default
returns-in_default c = absurd (omega (arith, c.in_default.len_below, in_all c.args.cites.now 2 0 (two_lines c.args.cites.now c.requires.counts)))

pub returns-in_default-2 : goal.returns-in_default-2
returns-in_default-2 c = absurd (omega (arith, c.in_default.len_at_least, in_all c.args.cites.now 2 0 (two_lines c.args.cites.now c.requires.counts)))

pub returns-in_default-cited_sentence : goal.returns-in_default-cited_sentence
returns-in_default-cited_sentence c = record {
  exact =
      let cs = c.args.cites.now in
      let n = two_lines cs c.requires.counts in
      (λ i. absurd (cc), λ f. absurd (one_missing c.args.lines.now cs _ _ c.args.s.now (pair_of cs _ (in_all cs 2 0 n)) n.1 (sym c.in_default-cited_sentence.ensures.value) f));
}

pub returns : goal.returns
returns c = record {
  exact =
      let ls = c.args.lines.now in
      let cs = c.args.cites.now in
      let n = two_lines cs c.requires.counts in
      read_as r.EqElim (sentences_read ls cs) (c.in-Some.p.now ∷ c.in-Some-cited_sentence.q.now ∷ []) (subproofs_read ls cs) [] c.args.s.now c.is_replaced.result
      (two_read ls cs _ _ (pair_of cs _ (in_all cs 2 0 n)) n.1 ∙ ap₂ (λ (a b : Option Sent). prepend a (prepend b [])) (sym c.in-Some.ensures.value) (sym c.in-Some-cited_sentence.ensures.value))
      (no_subproofs ls cs n.1) c.is_replaced.ensures.exact;
}
