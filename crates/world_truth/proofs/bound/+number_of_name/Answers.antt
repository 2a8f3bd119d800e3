use Rattle.std.proofs.Common.{◌/◌, length, ◌∙◌}
use Rattle.world_truth.proofs.Standings.{name_past_one, name_past_row, name_past_column}
use Rattle.world_truth.proofs.bound.+number_of_name.Goals as goal

pub returns-in-One : goal.returns-in-One
returns-in-One t c = record { value = λ r k. c.number_of_name.ensures.value r k ∙ name_past_one c.args.world.now c.args.bound.now c.in-One.rest _ _ c.args.n.now r k c.in-One.is }

pub returns-in-ByRow : goal.returns-in-ByRow
returns-in-ByRow t c = record { value = λ r k. c.number_of_name-in-ByRow.ensures.value (r / length c.args.world.now) k ∙ name_past_row c.args.world.now c.args.bound.now c.in-ByRow.rest _ c.args.n.now r k c.in-ByRow.is }

pub returns-in-ByColumn : goal.returns-in-ByColumn
returns-in-ByColumn t c = record { value = λ r k. c.number_of_name-in-ByColumn.ensures.value r (k / length c.args.world.now) ∙ name_past_column c.args.world.now c.args.bound.now c.in-ByColumn.rest _ c.args.n.now r k c.in-ByColumn.is }
