use Rattle.std.proofs.Common.{sym, ◌∙◌}
use Rattle.boole_table.proofs.Listing.{not_behind}
use Rattle.boole_table.proofs.list_line.text_behind.Goals as goal

pub returns-else-ends_word : goal.returns-else-ends_word
returns-else-ends_word c = record { value = not_behind c.args.keyword.now c.args.line.now c.in-Some.tail.now c.in-Some.ensures.value (sym c.ends_word.ensures ∙ c.if-ends_word.false) }
