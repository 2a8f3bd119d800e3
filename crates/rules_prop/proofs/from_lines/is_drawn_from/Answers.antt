use Rattle.std.proofs.Common.{◌∙◌, sym, ap}
use Rattle.fol_core.specs.declared.sent.Sent.TheVariants.{And}
use Rattle.rules_prop.proofs.Drawing.{drawn_or}
use Rattle.rules_prop.proofs.from_lines.is_drawn_from.Goals as goal

pub returns-in-And : goal.returns-in-And
returns-in-And c = record {
  exact = drawn_or c.args.parts.now c.as_slice.result.now c.args.s.now c.all_among.result (λ h. let t = c.contains.ensures.value.1 h in cc)
      (c.in-And.is ∙ ap And (sym c.as_slice.ensures.value)) c.all_among.ensures.exact;
}
