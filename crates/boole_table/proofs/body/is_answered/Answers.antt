use Rattle.boole_table.proofs.Asking.{answered}
use Rattle.boole_table.proofs.body.is_answered.Goals as goal

pub returns : goal.returns
returns c = answered c.args.answers.now c.args.question c.has_answer.result c.has_answer.ensures.value
