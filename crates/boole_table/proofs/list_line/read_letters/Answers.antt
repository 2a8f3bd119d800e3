use Rattle.std.proofs.Common.{rules}
use Rattle.boole_table.proofs.Listing.{letters_answer}
use Rattle.boole_table.proofs.list_line.read_letters.Goals as goal

pub returns-else-is_empty : goal.returns-else-is_empty
returns-else-is_empty c = letters_answer c.args.text.now c.read_sentences.result (λ e. let k = c.if-is_empty.false in search rules) c.read_sentences.ensures
