use Rattle.std.proofs.Common.{ap, sym, ◌∙◌}
use Rattle.fol_core.specs.declared.sent.Sent.TheVariants.{And, Or}
use Rattle.fol_core.specs.declared.sent.Sent.{Sent}
use Rattle.std.specs.Prelude.{List}
use Rattle.fol_core.specs.Subst.{subst_where}
use Rattle.fol_core.proofs.Forms.{subst_and, subst_or}
use Rattle.fol_core.proofs.substitution.+subst.Goals as goal

pub put_into-returns-in_ok-put_into_all-in-And : goal.put_into-returns-in_ok-put_into_all-in-And
put_into-returns-in_ok-put_into_all-in-And t c =
    let x = c.args.var.now in let n = c.args.term.now in let free = c.args.free in
    record {
      value = ap And c.in_ok-put_into_all-in-And.ensures.value
          ∙ sym (subst_and x n c.in-And.parts free) ∙ ap (λ (s : Sent). subst_where x n s free) (sym c.in-And.is);
    }

pub put_into-returns-in_ok-put_into_all-in-Or : goal.put_into-returns-in_ok-put_into_all-in-Or
put_into-returns-in_ok-put_into_all-in-Or t c =
    let x = c.args.var.now in let n = c.args.term.now in let free = c.args.free in
    record {
      value = ap Or c.in_ok-put_into_all-in-Or.ensures.value
          ∙ sym (subst_or x n c.in-Or.parts free) ∙ ap (λ (s : Sent). subst_where x n s free) (sym c.in-Or.is);
    }
