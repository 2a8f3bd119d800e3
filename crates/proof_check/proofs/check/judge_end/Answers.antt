use Rattle.std.proofs.Common.{sym, ◌∙◌, true≢false}
use Rattle.proof_check.specs.Judged.{is_correct, misses_goal}
use Rattle.proof_check.proofs.LastLine.{last_sentence, last_is}
use Rattle.proof_check.proofs.check.judge_end.Goals as goal

pub returns-then-reaches : goal.returns-then-reaches
returns-then-reaches c = record {
  judged = λ p o e all.
      let last = last_sentence c.args.lines.now c.as_slice.result.now c.as_slice-2.result.now p c.last_outside-number.result o e c.as_slice.ensures.value c.as_slice-2.ensures.value c.last_outside-number.ensures.value in
      is_correct c.args.task.now p (record { pass = all; reached = sym last ∙ c.reaches.ensures.value.0 c.if-reaches.true });
}

pub returns : goal.returns
returns c = record {
  judged = λ p o e all.
      let last = last_sentence c.args.lines.now c.as_slice.result.now c.as_slice-2.result.now p c.last_outside-number.result o e c.as_slice.ensures.value c.as_slice-2.ensures.value c.last_outside-number.ensures.value in
      misses_goal c.args.task.now p c.last_outside-number.result
      (record {
        pass = all;
        missed = λ r. true≢false (sym (c.reaches.ensures.value.1 (last ∙ r)) ∙ c.if-reaches.false);
        last = last_is c.args.lines.now c.as_slice.result.now p c.last_outside-number.result o e c.as_slice.ensures.value c.last_outside-number.ensures.value;
      });
}
