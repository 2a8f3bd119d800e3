-- The one cited line is all that is cited.
use Rattle.std.proofs.Common.{◌≡◌, ◌∷◌, []}
use Rattle.deriv_laws.specs.declared.rule.Rule.TheVariants as r
use Rattle.nested_proofs.specs.ReadOff.{sentences_read, subproofs_read}
use Rattle.nested_proofs.proofs.ReadCites.{read_as}
use Rattle.nested_proofs.proofs.ReadCites.{no_subproofs}
use Rattle.rules_quant.proofs.Citing.{one_instance}
use Rattle.rules_quant.proofs.rules.by_witnesses.Goals as goal

pub returns-in-Some : goal.returns-in-Some
returns-in-Some c = record {
  exact =
      let ls = c.args.lines.now in
      let cs = c.args.cites.now in
      let p = c.in-Some.p.now in
      let only : sentences_read ls cs ≡ p ∷ [] = c.in-Some.ensures.read in
      read_as r.ExIntro (sentences_read ls cs) (p ∷ []) (subproofs_read ls cs) [] c.args.s.now c.leads.result only (no_subproofs ls cs (one_instance cs c.requires.counts).1) c.leads.ensures.exact;
}
