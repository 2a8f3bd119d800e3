use Rattle.tutor_app.proofs.Answering.{judged_answer, faulty_answer, ends_within}
use Rattle.tutor_app.proofs.check.CheckTool.answer.Goals as goal

pub returns-in-Ok : goal.returns-in-Ok
returns-in-Ok c = record { answers = judged_answer c.args.input.now c.in-Ok.text c.judge.result c.in-Ok.ensures.read c.judge.ensures.judged }

pub returns-in-Err : goal.returns-in-Err
returns-in-Err c = record { answers = faulty_answer c.args.input.now c.in-Err.line c.in-Err.fault c.task_reply.result c.in-Err.ensures.refused c.task_reply.ensures.reply }

pub judge-requires-clause-rest : goal.judge-requires-clause-rest
judge-requires-clause-rest c = ends_within c.args.input.now c.in-Ok.text.rest c.in-Ok.ensures.read.ends
