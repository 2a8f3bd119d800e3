use Rattle.std.proofs.Common.{sym, ◌∙◌}
use Rattle.play_text.proofs.Saying.{not_behind}
use Rattle.play_text.proofs.words.text_behind.Goals as goal

pub returns-else-ends_word : goal.returns-else-ends_word
returns-else-ends_word c = record { value = not_behind c.args.keyword.now c.args.line.now c.in-Some.tail.now c.in-Some.ensures.value (sym c.ends_word.ensures.value ∙ c.if-ends_word.false) }
