use Rattle.fitch_file.proofs.Declaring.{declared_found, declared_refused}
use Rattle.fitch_file.proofs.declaration.read_declared.Goals as goal

pub returns-in-Ok-clause-exact : goal.returns-in-Ok-clause-exact
returns-in-Ok-clause-exact c = declared_found c.args.text.now c.read_sentence.result c.in-Ok.sentence c.in-Ok.is c.read_sentence.ensures.exact

pub returns-in-Err-clause-exact : goal.returns-in-Err-clause-exact
returns-in-Err-clause-exact c = declared_refused c.args.text.now c.read_sentence.result c.in-Err.fault c.fault_of.result c.in-Err.is c.fault_of.ensures c.read_sentence.ensures.exact
