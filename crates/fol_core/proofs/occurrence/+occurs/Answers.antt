use Rattle.std.proofs.Common.{ap, sym, ◌∙◌, inl, inr}
use Rattle.std.specs.List.{list_any}
use Rattle.fol_core.specs.Subst.{occurs}
use Rattle.fol_core.proofs.Forms.{occurs_and, occurs_or}
use Rattle.fol_core.proofs.occurrence.+occurs.Goals as goal

pub occurs-returns-in-And : goal.occurs-returns-in-And
occurs-returns-in-And t c =
    let n = c.args.name.now in
    let any = c.occurs_in_any.ensures.value ∙ ap (list_any (occurs n)) c.as_slice-in-And.ensures.value in
    elim c.in-And.is [
      | inl e ↦ record { value = any ∙ sym (occurs_and n c.in-And.parts) ∙ ap (occurs n) (sym e) }
      | inr e ↦ record { value = any ∙ sym (occurs_or n c.in-And.parts) ∙ ap (occurs n) (sym e) }
    ]
