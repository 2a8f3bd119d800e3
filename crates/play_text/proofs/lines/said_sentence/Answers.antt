use Rattle.std.proofs.Common.{arith}
use Rattle.play_text.specs.PlayLines.{sentence_word}
use Rattle.play_text.proofs.Saying.{behind_fits}
use Rattle.play_text.proofs.Answering.{sentence_read, sentence_refused, no_sentence}
use Rattle.play_text.proofs.lines.said_sentence.Goals as goal

pub read_said-requires : goal.read_said-requires
read_said-requires c = omega (arith, c.requires, behind_fits sentence_word c.args.line.now c.in-Some.text.now c.in-Some.ensures.value)

pub returns-in-Some-clause-read : goal.returns-in-Some-clause-read
returns-in-Some-clause-read c = sentence_read c.args.line.now c.in-Some.text.now c.read_said.result c.in-Some.ensures.value c.read_said.ensures.read

pub returns-in-Some-clause-refused : goal.returns-in-Some-clause-refused
returns-in-Some-clause-refused c = sentence_refused c.args.line.now c.in-Some.text.now c.read_said.result c.in-Some.ensures.value c.read_said.ensures.refused

pub returns-in-None-clause-refused : goal.returns-in-None-clause-refused
returns-in-None-clause-refused c = no_sentence c.args.line.now c.in-None.ensures.value
