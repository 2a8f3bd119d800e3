use Rattle.std.proofs.Common.{Err}
use Rattle.play_text.proofs.Reading.{play_from, fault_from, header_stop}
use Rattle.play_text.proofs.Once.{read_exactly, read_plainly}
use Rattle.play_text.proofs.play_text.read_play.Goals as goal

pub returns-in-Ok-clause-exact : goal.returns-in-Ok-clause-exact
returns-in-Ok-clause-exact c =
    read_exactly c.args.text.now c.read_behind.result (play_from c.args.text.now c.in-Ok.header.place c.in-Ok.header.line.now c.in-Ok.header.rest.now c.read_behind.result c.in-Ok.ensures.found c.read_behind.ensures.read)
    (fault_from c.args.text.now c.in-Ok.header.place c.in-Ok.header.line.now c.in-Ok.header.rest.now c.read_behind.result c.in-Ok.ensures.found c.read_behind.ensures.refused)

pub returns-in-Ok-clause-plain : goal.returns-in-Ok-clause-plain
returns-in-Ok-clause-plain c =
    read_plainly c.args.text.now c.read_behind.result
    (fault_from c.args.text.now c.in-Ok.header.place c.in-Ok.header.line.now c.in-Ok.header.rest.now c.read_behind.result c.in-Ok.ensures.found c.read_behind.ensures.refused)

pub returns-in-Err-clause-exact : goal.returns-in-Err-clause-exact
returns-in-Err-clause-exact c = read_exactly c.args.text.now (Err (c.in-Err.number, c.in-Err.fault)) tt (header_stop c.args.text.now c.in-Err.number c.in-Err.fault c.in-Err.ensures.refused)
