use Rattle.std.proofs.Common.{ℕ, ◌*◌, ◌/◌, ap, min, sym, ◌∙◌}
use Rattle.world_truth.proofs.Standings.{at_given, at_one, at_row, at_column, past_row, past_column}
use Rattle.world_truth.proofs.bound.referent_of_variable.Goals as goal

pub returns-in-Given : goal.returns-in-Given
returns-in-Given c = record {
  value = λ r k low narrow. c.number_of_place.ensures.value
      ∙ at_given c.args.world.now c.loop-outer.outer.now c.in-Given.places c.args.x.now (r / c.loop-outer.row) (k / c.loop-outer.column) c.in-Given.is ∙ c.loop-outer.invariant r k low narrow;
}

pub returns-then-same_ident : goal.returns-then-same_ident
returns-then-same_ident c = record {
  value = λ r k low narrow. at_one c.args.world.now c.loop-outer.outer.now c.in-One.rest c.in-One.y c.in-One.number c.args.x.now (r / c.loop-outer.row) (k / c.loop-outer.column) c.in-One.is (sym c.if-same_ident.ensures.value)
      ∙ c.loop-outer.invariant r k low narrow;
}

pub returns-then-same_ident-2 : goal.returns-then-same_ident-2
returns-then-same_ident-2 c = record {
  value = λ r k low narrow. at_row c.args.world.now c.loop-outer.outer.now c.in-ByRow.rest c.in-ByRow.y c.args.x.now (r / c.loop-outer.row) (k / c.loop-outer.column) c.in-ByRow.is (sym c.if-same_ident-2.ensures.value)
      ∙ c.loop-outer.invariant r k low narrow;
}

pub returns-then-same_ident-3 : goal.returns-then-same_ident-3
returns-then-same_ident-3 c = record {
  value = λ r k low narrow. at_column c.args.world.now c.loop-outer.outer.now c.in-ByColumn.rest c.in-ByColumn.y c.args.x.now (r / c.loop-outer.row) (k / c.loop-outer.column) c.in-ByColumn.is (sym c.if-same_ident-3.ensures.value)
      ∙ c.loop-outer.invariant r k low narrow;
}

pub loop-outer-preserved-in-ByRow : goal.loop-outer-preserved-in-ByRow
loop-outer-preserved-in-ByRow c = λ r k low narrow.
    past_row c.args.world.now c.loop-outer.outer.now c.in-ByRow.rest c.in-ByRow.y c.args.x.now r c.loop-outer.row c.saturating_mul-row.result (k / c.loop-outer.column) low c.in-ByRow.is
    (c.saturating_mul-row.ensures ∙ ap (λ (n : ℕ). min (c.loop-outer.row * n) 4294967295) c.block_count-count.ensures.value) (sym c.if-same_ident-2.ensures.value) ∙ c.loop-outer.invariant r k low narrow

pub loop-outer-preserved : goal.loop-outer-preserved
loop-outer-preserved c = λ r k low narrow.
    past_column c.args.world.now c.loop-outer.outer.now c.in-ByColumn.rest c.in-ByColumn.y c.args.x.now (r / c.loop-outer.row) k c.loop-outer.column c.saturating_mul-column.result narrow c.in-ByColumn.is
    (c.saturating_mul-column.ensures ∙ ap (λ (n : ℕ). min (c.loop-outer.column * n) 4294967295) c.block_count-count.ensures.value) (sym c.if-same_ident-3.ensures.value) ∙ c.loop-outer.invariant r k low narrow
