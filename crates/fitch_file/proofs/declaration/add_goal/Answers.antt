use Rattle.fitch_file.proofs.Declaring.{handed_on, goal_found}
use Rattle.fitch_file.proofs.declaration.add_goal.Goals as goal

pub returns-in_err-sentence-clause-exact : goal.returns-in_err-sentence-clause-exact
returns-in_err-sentence-clause-exact c = λ after h.
    handed_on c.read_declared.result h.goal c.in_err-sentence.field-0.0 c.from_residual.result after c.in_err-sentence.was c.from_residual.ensures.1 (c.read_declared.ensures.exact h.goal h.readable)

pub returns-clause-exact : goal.returns-clause-exact
returns-clause-exact c = goal_found c.args.draft c.args.text.now c.in_ok-sentence.sentence c.read_declared.result c.in_ok-sentence.was c.read_declared.ensures.exact
