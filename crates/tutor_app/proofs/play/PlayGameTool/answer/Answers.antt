use Rattle.tutor_app.proofs.Replaying.{play_answer, faulty_answer, sentence_closed, sentence_within}
use Rattle.tutor_app.proofs.play.PlayGameTool.answer.Goals as goal

pub returns-in-Ok : goal.returns-in-Ok
returns-in-Ok c = record { answers = play_answer c.args.input.now c.in-Ok.play c.replayed.result c.in-Ok.ensures.read c.replayed.ensures.reply }

pub returns-in-Err : goal.returns-in-Err
returns-in-Err c = record { answers = faulty_answer c.args.input.now c.in-Err.line c.in-Err.fault c.faulty.result c.in-Err.ensures.refused c.faulty.ensures.reply }

pub replayed-requires : goal.replayed-requires
replayed-requires c = record { closed = sentence_closed c.args.input.now c.in-Ok.play c.in-Ok.ensures.read; limits = sentence_within c.args.input.now c.in-Ok.play c.in-Ok.ensures.read }
