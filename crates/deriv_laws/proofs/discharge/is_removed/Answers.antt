use Rattle.std.proofs.Common.{ap, sym, ◌∙◌}
use Rattle.deriv_laws.specs.Dropped.{removed}
use Rattle.deriv_laws.proofs.discharge.is_removed.Goals as goal

pub returns-in-Instance : goal.returns-in-Instance
returns-in-Instance c =
    let v = c.is_instance.ensures.value in
    let as_put = ap removed c.in-Instance.is in
    record { value = ((λ h. as_put ∙ sym (v.0 h)), (λ e. v.1 (sym e ∙ as_put))) }
