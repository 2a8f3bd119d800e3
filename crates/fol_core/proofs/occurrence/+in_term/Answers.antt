use Rattle.std.proofs.Common.{ap, sym, ◌∙◌}
use Rattle.std.specs.List.{list_any}
use Rattle.fol_core.specs.Subst.{occurs_in_term}
use Rattle.fol_core.proofs.Terms.{in_app}
use Rattle.fol_core.proofs.occurrence.+in_term.Goals as goal

pub is_in_term-returns-in-App : goal.is_in_term-returns-in-App
is_in_term-returns-in-App t c =
    let n = c.args.name.now in
    record { value = c.is_in_terms.ensures.value ∙ ap (list_any (occurs_in_term n)) c.as_slice.ensures.value ∙ sym (in_app n c.in-App.field-0 c.in-App.args) ∙ ap (occurs_in_term n) (sym c.in-App.is) }
