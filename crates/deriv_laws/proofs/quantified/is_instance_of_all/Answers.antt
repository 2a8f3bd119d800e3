use Rattle.std.proofs.Common.{ap, sym, ◌∙◌}
use Rattle.fol_core.specs.declared.sent.Sent.{Sent}
use Rattle.fol_core.specs.Subst.{subst_closed_term}
use Rattle.fol_core.specs.declared.sent.Term.{Term}
use Rattle.deriv_laws.proofs.Instancing.{all_by_some}
use Rattle.deriv_laws.proofs.quantified.is_instance_of_all.Goals as goal

pub returns-in-All : goal.returns-in-All
returns-in-All c =
    let v = c.is_some_instance.ensures.value in
    let same = λ (n : Term). ap (λ (p : Sent). subst_closed_term c.in-All.x n p) c.get.ensures in
    record {
      value = (
        (λ h. let w = v.0 h in (c.in-All.x, c.in-All.p, w.0, w.1, c.in-All.is, w.2 ∙ same w.0)),
        (λ w. let u = all_by_some c.args.q.now c.args.s.now c.in-All.x c.in-All.p c.in-All.is w in v.1 (u.0, u.1, u.2 ∙ sym (same u.0))),
      );
    }
