use Rattle.boole_table.specs.Asked.{any_table}
use Rattle.boole_table.proofs.Judging.{exactly}
use Rattle.boole_table.proofs.read.read_table.Goals as goal

pub returns-clause-exact : goal.returns-clause-exact
returns-clause-exact c = exactly any_table c.args.text.now c.read_asked.result c.read_asked.ensures.read c.read_asked.ensures.refused
