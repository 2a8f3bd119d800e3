-- Conjunction introduction cites no subproof.
use Rattle.std.proofs.Common.{◌∙◌, sym, ap}
use Rattle.fol_core.specs.declared.sent.Sent.TheVariants.{And}
use Rattle.nested_proofs.specs.ReadOff.{sentences_read, subproofs_read}
use Rattle.rules_prop.proofs.Counting.{no_subproof}
use Rattle.nested_proofs.proofs.ReadCites.{no_subproofs}
use Rattle.rules_prop.proofs.Showing.{joined}
use Rattle.rules_prop.proofs.rules.joins.Goals as goal

pub returns-in-And : goal.returns-in-And
returns-in-And c = record {
  exact =
      let ls = c.args.lines.now in
      let cs = c.args.cites.now in
      joined (sentences_read ls cs) (subproofs_read ls cs) c.as_slice.result.now c.args.s.now c.all_cited.result (no_subproofs ls cs (no_subproof cs c.requires.counts))
      (c.in-And.is ∙ ap And (sym c.as_slice.ensures.value)) c.all_cited.ensures.exact;
}
