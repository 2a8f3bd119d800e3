use Rattle.tutor_app.proofs.Evaluating.{each_answered, refused_answer}
use Rattle.tutor_app.proofs.world.EvaluateTool.answer.Goals as goal

pub returns-in_ok-answer_lines-in-Ok : goal.returns-in_ok-answer_lines-in-Ok
returns-in_ok-answer_lines-in-Ok c = record {
  answers = each_answered c.args.self.now.world c.args.input.now c.in-Ok.sentences c.as_slice.result.now c.in_ok-answer_lines-in-Ok.field-0 c.in-Ok.ensures.read c.as_slice.ensures.value c.in_ok-answer_lines-in-Ok.ensures.lines;
}

pub returns-in-Err : goal.returns-in-Err
returns-in-Err c = record {
  answers = refused_answer c.args.self.now.world c.args.input.now c.in-Err.line c.in-Err.fault c.list_reply.result c.requires.within c.in-Err.ensures.refused c.list_reply.ensures.reply;
}
