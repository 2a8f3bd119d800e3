use Rattle.std.proofs.Common.{arith, ◌∙◌}
use Rattle.taut_con.proofs.Patterns.{one_in_word}
use Rattle.taut_con.proofs.rows.letter_word.Goals as goal

pub returns-in_default : goal.returns-in_default
returns-in_default c = record {
  value = λ k l. c.all_or_none.ensures.value k l ∙ c.letter_in_row.ensures.value ∙ one_in_word c.args.letters c.args.base c.args.letter k (omega arith) c.requires.aligned l;
}
