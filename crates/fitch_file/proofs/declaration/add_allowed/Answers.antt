use Rattle.fitch_file.proofs.Allowing.{allowed_found}
use Rattle.fitch_file.proofs.declaration.add_allowed.Goals as goal

pub returns-in-Some-clause-exact : goal.returns-in-Some-clause-exact
returns-in-Some-clause-exact c = allowed_found c.args.draft c.args.text.now c.in-Some.rules c.in-Some.ensures
