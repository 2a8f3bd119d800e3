use Rattle.std.proofs.Common.{ap, sym, ◌∙◌}
use Rattle.std.specs.Prelude.{List, map}
use Rattle.fol_core.specs.declared.sent.Sent.{Sent}
use Rattle.fol_core.specs.declared.sent.Sent.TheVariants.{And, Or}
use Rattle.fol_core.specs.Subst.{subst_where}
use Rattle.fol_core.specs.Put.{put}
use Rattle.fol_core.proofs.Forms.{subst_and, subst_or, and_parts, or_parts}
use Rattle.fol_core.proofs.instance.+instance.Goals as goal

pub is_instance_at-returns-in-And-And : goal.is_instance_at-returns-in-And-And
is_instance_at-returns-in-And-And t c =
    let x = c.args.x.now in let n = put c.args.put_in.now in let free = c.args.free in
    let whole = ap (λ (q : Sent). subst_where x n q free) c.in-And-And.is-0 ∙ subst_and x n c.in-And-And.a free in
    let part = c.as_slice-in-And-And-2.ensures.value in
    let from = ap (λ (qs : List Sent). map (λ q. subst_where x n q free) qs) c.as_slice-in-And-And.ensures.value in
    record {
      value = (
        (λ h. c.in-And-And.is-1 ∙ ap And (sym part ∙ c.are_instances.ensures.value.0 h ∙ from) ∙ sym whole),
        (λ h. c.are_instances.ensures.value.1 (part ∙ and_parts (sym c.in-And-And.is-1 ∙ h ∙ whole) ∙ sym from)),
      );
    }

pub is_instance_at-returns-in-Or-Or : goal.is_instance_at-returns-in-Or-Or
is_instance_at-returns-in-Or-Or t c =
    let x = c.args.x.now in let n = put c.args.put_in.now in let free = c.args.free in
    let whole = ap (λ (q : Sent). subst_where x n q free) c.in-Or-Or.is-0 ∙ subst_or x n c.in-Or-Or.a free in
    let part = c.as_slice-in-Or-Or-2.ensures.value in
    let from = ap (λ (qs : List Sent). map (λ q. subst_where x n q free) qs) c.as_slice-in-Or-Or.ensures.value in
    record {
      value = (
        (λ h. c.in-Or-Or.is-1 ∙ ap Or (sym part ∙ c.are_instances-in-Or-Or.ensures.value.0 h ∙ from) ∙ sym whole),
        (λ h. c.are_instances-in-Or-Or.ensures.value.1 (part ∙ or_parts (sym c.in-Or-Or.is-1 ∙ h ∙ whole) ∙ sym from)),
      );
    }
