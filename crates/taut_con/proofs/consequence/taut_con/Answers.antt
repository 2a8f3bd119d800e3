use Rattle.std.proofs.Common.{◌≡◌, subst}
use Rattle.std.specs.Prelude.{IfOk}
use Rattle.taut_con.specs.Answer.{taut_answer}
use Rattle.taut_con.proofs.Sound.{yes_derivable, told}
use Rattle.taut_con.proofs.consequence.taut_con.Goals as goal

pub returns-clause-answer : goal.returns-clause-answer
returns-clause-answer c = subst (λ ps. IfOk c.answer.result (λ x. x ≡ taut_answer ps c.args.goal.now)) c.as_slice.ensures.value c.answer.ensures.answer

pub returns-clause-derives : goal.returns-clause-derives
returns-clause-derives c stated_premises stated_goal says =
    yes_derivable c.args.premises.now c.args.goal.now stated_premises stated_goal
    (told c.answer.result (taut_answer c.args.premises.now c.args.goal.now) says
    (subst (λ ps. IfOk c.answer.result (λ x. x ≡ taut_answer ps c.args.goal.now)) c.as_slice.ensures.value c.answer.ensures.answer))
