-- The first cited line is the only one.
use Rattle.std.proofs.Common.{◌∙◌, ap, sym}
use Rattle.std.specs.Prelude.{option_to_list}
use Rattle.nested_proofs.proofs.ReadCites.{only_sentence}
use Rattle.nested_proofs.proofs.read_off.only_cited.Goals as goal

pub returns-then-not-cite : goal.returns-then-not-cite
returns-then-not-cite c = record {
  read = c.loop-cite.invariant.same ∙ only_sentence c.args.lines.now c.args.cites.now c.loop-cite.cite-index _ c.loop-cite-test.true c.loop-cite.invariant.one c.if-not-cite.true ∙ ap option_to_list (sym c.cited_sentence.ensures.value);
}
