use Rattle.std.proofs.Common.{◌∙◌, sym}
use Rattle.boole_table.proofs.Numbering.{free_more, word_found, rest_found}
use Rattle.boole_table.proofs.answer_line.split_word.Goals as goal

pub loop-place-preserved : goal.loop-place-preserved
loop-place-preserved c = free_more c.args.text.now c.loop-place.place c.loop-place-test.true (sym c.is_blank.ensures ∙ c.if-is_blank.false) c.loop-place.invariant

pub returns-then-is_blank-clause-word : goal.returns-then-is_blank-clause-word
returns-then-is_blank-clause-word c = c.split_at.ensures.front ∙ word_found c.args.text.now c.loop-place.place c.loop-place-test.true (sym c.is_blank.ensures ∙ c.if-is_blank.true) c.loop-place.invariant

pub returns-then-is_blank-clause-rest : goal.returns-then-is_blank-clause-rest
returns-then-is_blank-clause-rest c = c.split_at.ensures.back ∙ rest_found c.args.text.now c.loop-place.place c.loop-place-test.true (sym c.is_blank.ensures ∙ c.if-is_blank.true) c.loop-place.invariant
