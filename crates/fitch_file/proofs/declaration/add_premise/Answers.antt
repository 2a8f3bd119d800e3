use Rattle.fitch_file.proofs.Declaring.{handed_on, premise_found}
use Rattle.fitch_file.proofs.declaration.add_premise.Goals as goal

pub returns-in_err-premise-clause-exact : goal.returns-in_err-premise-clause-exact
returns-in_err-premise-clause-exact c = λ after h.
    handed_on c.read_declared.result h.premise c.in_err-premise.field-0.0 c.from_residual.result after c.in_err-premise.was c.from_residual.ensures.1 (c.read_declared.ensures.exact h.premise h.readable)

pub returns-clause-exact : goal.returns-clause-exact
returns-clause-exact c = premise_found c.args.draft c.args.text.now c.in_ok-premise.premise c.add.new.self c.read_declared.result c.in_ok-premise.was c.read_declared.ensures.exact c.in_ok-add.ensures.ok
