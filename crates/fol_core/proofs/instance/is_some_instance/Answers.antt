use Rattle.std.proofs.Common.{◌≡◌, ap, sym, ◌∙◌, subst, IsTrue}
use Rattle.fol_core.specs.declared.sent.Term.{Term}
use Rattle.fol_core.specs.declared.sent.Term.TheVariants.{Name}
use Rattle.fol_core.specs.Statements.{ground}
use Rattle.fol_core.specs.Subst.{subst_closed_term}
use Rattle.fol_core.proofs.Instances.{name_ground}
use Rattle.fol_core.proofs.instance.is_some_instance.Goals as goal

pub returns-in-Some : goal.returns-in-Some
returns-in-Some c = record {
  value = (
    (λ h. let w = c.is_closed_instance.ensures.value.0 h in (c.in-Some.term.now, w.0, w.1)),
    (λ w. let same = sym (c.in-Some.ensures.alone w.0 w.2) in c.is_closed_instance.ensures.value.1 (subst (λ (r : Term). IsTrue (ground r)) same w.1, w.2 ∙ ap (λ (m : Term). subst_closed_term c.args.x.now m c.args.q.now) same)),
  );
}

pub returns-in-None : goal.returns-in-None
returns-in-None c = record {
  value = (
    (λ h. (Name c.args.x.now, name_ground c.args.x.now c.form.ensures.form, c.is_instance.ensures.value.0 h)),
    (λ w. c.is_instance.ensures.value.1 (c.in-None.ensures.alone w.0 w.2 (Name c.args.x.now))),
  );
}
