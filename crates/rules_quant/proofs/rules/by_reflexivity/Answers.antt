-- Nothing is cited.
use Rattle.std.proofs.Common.{[]}
use Rattle.deriv_laws.specs.declared.rule.Rule.TheVariants as r
use Rattle.nested_proofs.specs.ReadOff.{sentences_read, subproofs_read}
use Rattle.nested_proofs.proofs.ReadCites.{read_as}
use Rattle.nested_proofs.proofs.ReadCites.{no_sentences, no_subproofs}
use Rattle.rules_quant.proofs.Citing.{no_cites}
use Rattle.rules_quant.proofs.rules.by_reflexivity.Goals as goal

pub returns : goal.returns
returns c = record {
  exact =
      let ls = c.args._lines.now in
      let cs = c.args.cites.now in
      let n = no_cites cs c.requires.counts in
      read_as r.EqIntro (sentences_read ls cs) [] (subproofs_read ls cs) [] c.args.s.now c.is_reflexive.result (no_sentences ls cs n.0) (no_subproofs ls cs n.1) c.is_reflexive.ensures.exact;
}
