use Rattle.std.proofs.Common.{ap, sym, ◌∙◌}
use Rattle.fol_core.specs.declared.sent.Sent.{Sent}
use Rattle.fol_core.specs.Subst.{subst_closed_term}
use Rattle.fol_core.specs.declared.sent.Term.{Term}
use Rattle.deriv_laws.proofs.Instancing.{ex_by_some}
use Rattle.deriv_laws.proofs.quantified.is_instance_of_ex.Goals as goal

pub returns-in-Ex : goal.returns-in-Ex
returns-in-Ex c =
    let v = c.is_some_instance.ensures.value in
    let same = λ (n : Term). ap (λ (p : Sent). subst_closed_term c.in-Ex.x n p) c.get.ensures in
    record {
      value = (
        (λ h. let w = v.0 h in (c.in-Ex.x, c.in-Ex.p, w.0, w.1, c.in-Ex.is, w.2 ∙ same w.0)),
        (λ w. let u = ex_by_some c.args.s.now c.args.q.now c.in-Ex.x c.in-Ex.p c.in-Ex.is w in v.1 (u.0, u.1, u.2 ∙ sym (same u.0))),
      );
    }
