-- Each test says what is wrong; where none does, the sentence is fit.
use Rattle.std.proofs.Common.{sym, ◌∙◌}
use Rattle.std.proofs.lemmas.Result.{err_from_is_err_and}
use Rattle.fol_text.proofs.Fitness.{limit_unfit, places_unfit, variable_unfit, all_fit}
use Rattle.fol_text.proofs.read.fit.Goals as goal

pub returns-in_err-are_limits_kept-clause-fault : goal.returns-in_err-are_limits_kept-clause-fault
returns-in_err-are_limits_kept-clause-fault c =
    let p = err_from_is_err_and c.from_residual.result c.from_residual.ensures.1 in
    rw (p.1, p.2) (limit_unfit c.args.tokens.now c.args.sentence.now c.in_err-are_limits_kept.field-0.0 c.in_err-are_limits_kept.ensures.value)

pub returns-in-Some-clause-fault : goal.returns-in-Some-clause-fault
returns-in-Some-clause-fault c =
    places_unfit c.args.tokens.now c.args.sentence.now c.in-Some.place c.in_ok-are_limits_kept.field-0 c.in_ok-are_limits_kept.ensures.value (sym c.in-Some.is ∙ c.in_ok-place.ensures.value)

pub returns-in-Some-2-clause-fault : goal.returns-in-Some-2-clause-fault
returns-in-Some-2-clause-fault c =
    variable_unfit c.args.tokens.now c.args.sentence.now c.in-Some-2.place c.in_ok-are_limits_kept.field-0 c.requires c.in_ok-are_limits_kept.ensures.value
    (sym c.in_default.is ∙ c.in_ok-place.ensures.value) (sym c.in-Some-2.is ∙ c.in_ok-place-2.ensures.value)

pub returns-clause-fits : goal.returns-clause-fits
returns-clause-fits c = λ _.
    all_fit c.args.tokens.now c.args.sentence.now c.in_ok-are_limits_kept.field-0 c.requires c.in_ok-are_limits_kept.ensures.value
    (sym c.in_default.is ∙ c.in_ok-place.ensures.value) (sym c.in_default-2.is ∙ c.in_ok-place-2.ensures.value)
