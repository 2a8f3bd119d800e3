use Rattle.std.proofs.Common.{rules}
use Rattle.boole_table.proofs.Rowing.{no_bar, no_end}
use Rattle.boole_table.proofs.row_line.read_row.Goals as goal

pub returns-in_default : goal.returns-in_default
returns-in_default c =
    no_bar c.args.line.now c.in_ok-letters.behind.now c.in_ok-letters.letters c.in_ok-letters.ensures.values (search rules) c.in_default.ensures.value

pub returns-else-is_empty : goal.returns-else-is_empty
returns-else-is_empty c =
    no_end c.args.line.now c.in_ok-letters.behind.now c.in-Some.rest.now c.in_ok-sentences.end.now c.in_ok-letters.letters c.in_ok-sentences.sentences
    c.in_ok-letters.ensures.values (search rules) c.in-Some.ensures.value c.in_ok-sentences.ensures.values (search rules) (search rules)
