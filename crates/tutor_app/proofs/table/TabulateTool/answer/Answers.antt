use Rattle.std.specs.Str.Lines.{lines}
use Rattle.tutor_app.proofs.Tabulating.{list_answer, unlisted_answer, listed_few}
use Rattle.tutor_app.proofs.table.TabulateTool.answer.Goals as goal

pub returns-in-Ok : goal.returns-in-Ok
returns-in-Ok c = record { answers = list_answer c.args.input.now c.in-Ok.sentences c.tabulated.result c.in-Ok.ensures.read c.tabulated.ensures.reply }

pub returns-in-Err : goal.returns-in-Err
returns-in-Err c = record { answers = unlisted_answer c.args.input.now c.in-Err.line c.in-Err.fault c.list_reply.result c.in-Err.ensures.refused c.list_reply.ensures.reply }

pub tabulated-requires : goal.tabulated-requires
tabulated-requires c = record { small = listed_few (lines c.args.input.now) c.in-Ok.sentences c.in-Ok.ensures.read }
