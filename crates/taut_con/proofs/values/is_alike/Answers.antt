use Rattle.std.proofs.Common.{subst, IsTrue}
use Rattle.fol_core.proofs.Equality.{alike_refl, alike_same}
use Rattle.deriv_laws.specs.Discharge.{alike}
use Rattle.taut_con.proofs.Gathering.{same_truth}
use Rattle.taut_con.proofs.values.is_alike.Goals as goal

pub returns : goal.returns
returns c = record {
  value =
      same_truth c.same.result (alike c.args.p.now c.args.q.now)
      (λ h. subst (λ x. IsTrue (alike c.args.p.now x)) (c.same.ensures.value.0 h) (alike_refl c.args.p.now))
      (λ h. c.same.ensures.value.1 (alike_same c.args.p.now c.args.q.now h));
}
