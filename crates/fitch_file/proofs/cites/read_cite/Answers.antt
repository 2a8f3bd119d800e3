use Rattle.fitch_file.specs.Cites.{line}
use Rattle.fitch_file.proofs.Citing.{found_range}
use Rattle.fitch_file.proofs.cites.read_cite.Goals as goal

pub returns-in-Some : goal.returns-in-Some
returns-in-Some c = line c.args.text.now c.in-Some.number c.in-Some.ensures.value

pub returns-in-None : goal.returns-in-None
returns-in-None c = found_range c.args.text.now c.read_range.result c.in-None.ensures.value c.read_range.ensures
