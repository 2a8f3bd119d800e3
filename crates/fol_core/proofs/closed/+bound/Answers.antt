use Rattle.std.proofs.Common.{ap, sym, ◌∙◌}
use Rattle.std.specs.List.{list_all}
use Rattle.fol_core.specs.Closed.{is_bound}
use Rattle.fol_core.specs.Statements.{grounded}
use Rattle.fol_core.specs.Bound.{words}
use Rattle.fol_core.proofs.Terms.{bound_app, grounded_args}
use Rattle.fol_core.proofs.closed.+bound.Goals as goal

pub is_term_bound-returns-in-App-clause-value : goal.is_term_bound-returns-in-App-clause-value
is_term_bound-returns-in-App-clause-value t c =
    let ws = words c.args.bound.now in
    c.are_terms_bound.ensures.value ∙ ap (list_all (is_bound ws)) c.as_slice.ensures.value ∙ sym (bound_app c.in-App.f c.in-App.args ws) ∙ ap (is_bound ws) (sym c.in-App.is)

pub is_term_bound-returns-in-App-clause-grounded : goal.is_term_bound-returns-in-App-clause-grounded
is_term_bound-returns-in-App-clause-grounded t c =
    let ws = words c.args.bound.now in
    c.are_terms_bound.ensures.grounded ∙ ap (list_all (grounded ws)) c.as_slice.ensures.value
    ∙ sym (grounded_args c.in-App.f c.in-App.args ws c.form-in-App.ensures.form c.as_slice.ensures.one) ∙ ap (grounded ws) (sym c.in-App.is)
