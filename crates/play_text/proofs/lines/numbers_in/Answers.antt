use Rattle.std.proofs.Common.{sym, subst}
use Rattle.play_text.proofs.Numbering.{Numbered, no_number_yet, one_number_more, all_numbers, refused_here}
use Rattle.play_text.proofs.lines.numbers_in.Goals as goal

pub loop-word-init : goal.loop-word-init
loop-word-init c = subst (Numbered c.args.text.now c.args.text.now) (sym c.new-choices.ensures.empty) (no_number_yet c.args.text.now)

pub loop-word-preserved : goal.loop-word-preserved
loop-word-preserved c =
    one_number_more c.args.text.now c.loop-word.rest.now c.in-Some.word.now c.in-Some.after.now c.loop-word.choices c.put_number.new.choices c.loop-word.invariant c.in-Some.ensures.value c.in-Ok.ensures.put

pub returns-in-Err-clause-refused : goal.returns-in-Err-clause-refused
returns-in-Err-clause-refused c =
    refused_here c.args.text.now c.loop-word.rest.now c.in-Some.word.now c.in-Some.after.now c.loop-word.choices c.in-Err.fault c.loop-word.invariant c.in-Some.ensures.value c.in-Err.ensures.refused

pub returns-clause-read : goal.returns-clause-read
returns-clause-read c = all_numbers c.args.text.now c.loop-word.rest.now c.loop-word.choices c.loop-word.invariant c.in_default.ensures.value
