use Rattle.std.proofs.Common.{sym, ◌∙◌}
use Rattle.fitch_file.proofs.Boxing.{no_bracket, no_name}
use Rattle.fitch_file.proofs.boxes.boxed.Goals as goal

pub returns-in_default-cut : goal.returns-in_default-cut
returns-in_default-cut c = λ name after. no_bracket c.args.text.now c.in-Some.inner.now name after c.in-Some.ensures.value c.in_default-cut.ensures.value

pub returns-else-is_name : goal.returns-else-is_name
returns-else-is_name c = λ name after.
    no_name c.args.text.now c.in-Some.inner.now c.in-Some-cut.name.now c.in-Some-cut.rest.now name after c.in-Some.ensures.value c.in-Some-cut.ensures.value (sym c.is_name.ensures ∙ c.if-is_name.false)
