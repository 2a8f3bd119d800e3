use Rattle.std.proofs.Common.{◌∙◌, sym, arith}
use Rattle.fitch_file.proofs.Wording.{word_at, rest_at, word_all, rest_all}
use Rattle.fitch_file.proofs.words.split_word.Goals as goal

pub returns-then-is_blank-clause-word : goal.returns-then-is_blank-clause-word
returns-then-is_blank-clause-word c = c.split_at.ensures.front ∙ word_at c.args.text.now c.loop-place.place c.loop-place-test.true c.loop-place.invariant (sym c.is_blank.ensures ∙ c.if-is_blank.true)

pub returns-then-is_blank-clause-rest : goal.returns-then-is_blank-clause-rest
returns-then-is_blank-clause-rest c = c.split_at.ensures.back ∙ rest_at c.args.text.now c.loop-place.place c.loop-place-test.true c.loop-place.invariant (sym c.is_blank.ensures ∙ c.if-is_blank.true)

pub returns-clause-word : goal.returns-clause-word
returns-clause-word c = word_all c.args.text.now c.loop-place.place (omega arith) c.loop-place.invariant

pub returns-clause-rest : goal.returns-clause-rest
returns-clause-rest c = rest_all c.args.text.now c.loop-place.place (omega arith) c.loop-place.invariant
