use Rattle.std.proofs.Common.{◌∙◌, sym, ap}
use Rattle.fol_core.specs.declared.sent.Sent.TheVariants.{And}
use Rattle.rules_prop.proofs.Drawing.{drawn_from}
use Rattle.rules_prop.proofs.from_lines.is_drawn.Goals as goal

pub returns-in-And : goal.returns-in-And
returns-in-And c = record {
  exact = drawn_from c.as_slice.result.now c.args.p.now c.args.s.now c.is_drawn_from.result (c.in-And.is ∙ ap And (sym c.as_slice.ensures.value)) c.is_drawn_from.ensures.exact;
}
