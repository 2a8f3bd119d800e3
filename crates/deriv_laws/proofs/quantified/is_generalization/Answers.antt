use Rattle.std.proofs.Common.{ap, sym, ◌∙◌}
use Rattle.fol_core.specs.declared.sent.Sent.{Sent}
use Rattle.fol_core.specs.Subst.{subst_name}
use Rattle.deriv_laws.proofs.Instancing.{all_by}
use Rattle.deriv_laws.proofs.quantified.is_generalization.Goals as goal

pub returns-in-All : goal.returns-in-All
returns-in-All c =
    let same = ap (λ (p : Sent). subst_name c.in-All.x c.args.constant.now p) c.get.ensures in
    record {
      value = (
        (λ h. (c.in-All.x, c.in-All.p, c.in-All.is, c.is_instance.ensures.value.0 h ∙ same)),
        (λ w. c.is_instance.ensures.value.1 (all_by c.args.s.now c.args.q.now c.args.constant.now c.in-All.x c.in-All.p c.in-All.is w ∙ sym same)),
      );
    }
