use Rattle.play_text.proofs.Answering.{no_commitment}
use Rattle.play_text.proofs.lines.said_commitment.Goals as goal

pub returns-in_default-clause-refused : goal.returns-in_default-clause-refused
returns-in_default-clause-refused c = no_commitment c.args.line.now c.in_default.ensures.value
