use Rattle.std.proofs.Common.{sym, ap, ◌∙◌}
use Rattle.boole_table.specs.Questions.{are_true_beside}
use Rattle.boole_table.proofs.Scanning.{beside_fails}
use Rattle.boole_table.proofs.answers.others_true.Goals as goal

pub returns-then-place-number : goal.returns-then-place-number
returns-then-place-number c = record {
  value = sym (ap (are_true_beside c.args.number 1) (sym c.as_slice-values.ensures.value) ∙ sym c.loop-place.invariant
      ∙ beside_fails c.args.number c.loop-place.place c.as_slice-values.result.now c.loop-place-test.true c.if-not-values-place.true c.if-place-number.true);
}
