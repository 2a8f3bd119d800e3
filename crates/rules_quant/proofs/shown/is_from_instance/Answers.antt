use Rattle.std.proofs.Common.{◌∙◌, ap}
use Rattle.std.specs.Option.{option_copied}
use Rattle.deriv_laws.specs.declared.line.FlatLine.{FlatLine}
use Rattle.rules_quant.proofs.Showing.{from_instance_at}
use Rattle.rules_quant.proofs.shown.is_from_instance.Goals as goal

pub returns-in-Some : goal.returns-in-Some
returns-in-Some c = record {
  exact = from_instance_at c.args.lines.now c.args.cite c.index-lines-cite.result c.in-Some.c (option_copied c.cited_sentence.result) (option_copied c.cited_conclusion.result) c.args.p.now c.args.s.now c.shows_from.result
      (record { within = c.requires.within; line = c.index-lines-cite.is; boxed = ap (λ (y : FlatLine). y.boxed) c.index-lines-cite.is ∙ c.in-Some.is; hypothesis = c.cited_sentence.ensures.value; conclusion = c.cited_conclusion.ensures.value })
      c.shows_from.ensures.exact;
}
