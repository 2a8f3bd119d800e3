use Rattle.std.proofs.Common.{sym, ◌∙◌}
use Rattle.fitch_file.proofs.Declaring.{not_behind}
use Rattle.fitch_file.proofs.declaration.text_behind.Goals as goal

pub returns-else-ends_word : goal.returns-else-ends_word
returns-else-ends_word c = not_behind c.args.keyword.now c.args.line.now c.in-Some.tail.now c.in-Some.ensures.value (sym c.ends_word.ensures ∙ c.if-ends_word.false)
