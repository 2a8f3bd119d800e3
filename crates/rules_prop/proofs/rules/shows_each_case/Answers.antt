-- The one cited line is the disjunction.
use Rattle.std.proofs.Common.{◌≡◌, ◌∷◌, [], ◌∙◌, ap, sym}
use Rattle.fol_core.specs.declared.sent.Sent.TheVariants.{Or}
use Rattle.nested_proofs.specs.ReadOff.{sentences_read, subproofs_read}
use Rattle.rules_prop.proofs.Showing.{split}
use Rattle.rules_prop.proofs.rules.shows_each_case.Goals as goal

pub returns-in-Some-Or : goal.returns-in-Some-Or
returns-in-Some-Or c = record {
  exact =
      let ls = c.args.lines.now in
      let cs = c.args.cites.now in
      let p = c.in-Some-Or.field-0.now in
      let only : sentences_read ls cs ≡ p ∷ [] = c.in-Some-Or.ensures.read in
      let whole : p ≡ Or c.as_slice.result.now = c.in-Some-Or.field-0-is ∙ ap Or (sym (c.as_slice.ensures.value ∙ c.in-Some-Or.parts-is)) in
      split (sentences_read ls cs) (subproofs_read ls cs) p c.as_slice.result.now c.args.s.now c.covers.result only whole c.covers.ensures.exact;
}
