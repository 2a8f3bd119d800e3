use Rattle.std.proofs.Common.{◌≡◌, ◌∙◌, sym, subst, true, false}
use Rattle.std.specs.Option.{option_copied}
use Rattle.rules_quant.specs.Shown.{IsInstance}
use Rattle.rules_quant.proofs.Showing.{from_shown}
use Rattle.rules_quant.proofs.shown.shows_from.Goals as goal

pub returns-else-is_instance_by : goal.returns-else-is_instance_by
returns-else-is_instance_by c = record {
  exact =
      let hyp = option_copied c.args.hypothesis in
      let end = option_copied c.args.end in
      from_shown hyp end c.args.c.now c.in-Ex.x c.in-Ex.q c.args.s.now c.args.p.now c.is_instance_by.result c.in-Ex.is
      (λ h. absurd (let f : false ≡ true = sym c.if-is_instance_by.false ∙ h in cc), λ w. c.is_instance_by.ensures.exact.1 (subst (λ z. IsInstance hyp z c.in-Ex.x c.args.c.now) (sym c.get.ensures) w.0));
}
