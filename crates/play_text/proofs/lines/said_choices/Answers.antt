use Rattle.play_text.proofs.Answering.{choices_read, choices_refused, no_choices_said}
use Rattle.play_text.proofs.lines.said_choices.Goals as goal

pub returns-in-Some-clause-read : goal.returns-in-Some-clause-read
returns-in-Some-clause-read c = choices_read c.args.line.now c.in-Some.text.now c.numbers_in.result c.in-Some.ensures.value c.numbers_in.ensures.read

pub returns-in-Some-clause-refused : goal.returns-in-Some-clause-refused
returns-in-Some-clause-refused c = choices_refused c.args.line.now c.in-Some.text.now c.numbers_in.result c.in-Some.ensures.value c.numbers_in.ensures.refused

pub returns-in-None-clause-refused : goal.returns-in-None-clause-refused
returns-in-None-clause-refused c = no_choices_said c.args.line.now c.in-None.ensures.value
