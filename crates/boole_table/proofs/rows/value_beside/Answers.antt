use Rattle.std.proofs.Common.{sym, ◌∙◌, true≢false}
use Rattle.boole_table.proofs.Valuing.{value_hit, value_miss}
use Rattle.boole_table.proofs.rows.value_beside.Goals as goal

pub returns-then-place-values : goal.returns-then-place-values
returns-then-place-values c = record {
  value = sym (value_hit c.args.columns.now c.args.values.now c.args.letter.now c.loop-place.place c.index-columns-place.result c.loop-place-test.true c.index-columns-place.is (c.same.ensures.value.0 c.if-same.true) c.if-place-values.true)
      ∙ c.loop-place.invariant;
}

pub loop-place-preserved : goal.loop-place-preserved
loop-place-preserved c =
    sym (value_miss c.args.columns.now c.args.values.now c.args.letter.now c.loop-place.place c.index-columns-place.result c.loop-place-test.true c.index-columns-place.is (λ e. true≢false (sym (c.same.ensures.value.1 e) ∙ c.if-same.false)))
    ∙ c.loop-place.invariant
