use Rattle.std.proofs.Common.{◌+◌, ◌∙◌, rules}
use Rattle.bit_sets.specs.BitSets.{has}
use Rattle.taut_con.proofs.Placing.{letter_there, no_letter_there}
use Rattle.taut_con.proofs.evaluation.rows_of_letter.Goals as goal

pub returns-then-place-letters : goal.returns-then-place-letters
returns-then-place-letters c = record { rows = λ k l. letter_there c.args.letters (c.args.base + k) c.args.place (has c.letter_word.result.bits k) (search rules) (c.letter_word.ensures.value k l) }

pub returns-else-place-letters : goal.returns-else-place-letters
returns-else-place-letters c = record { rows = λ k l. c.all_or_none.ensures.value k l ∙ no_letter_there c.args.letters (c.args.base + k) c.args.place (search rules) }
