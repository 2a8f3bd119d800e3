use Rattle.std.proofs.Common.{◌∙◌}
use Rattle.worlds.specs.Assignments.{own_names}
use Rattle.world_truth.specs.Places.{given}
use Rattle.world_truth.proofs.NoFunctions.{function_given}
use Rattle.world_truth.proofs.Terms.{is_variable, is_name}
use Rattle.world_truth.proofs.bound.number.Goals as goal

pub returns-in-Var : goal.returns-in-Var
returns-in-Var c = record { value = c.number_of_place.ensures.value ∙ is_variable (given c.args.places.now (own_names c.args.world.now)) c.args.t.now _ c.in-Var.is }

pub returns-in-Name : goal.returns-in-Name
returns-in-Name c = record { value = c.number_past_places.ensures.value ∙ is_name (given c.args.places.now (own_names c.args.world.now)) c.args.t.now _ c.in-Name.is }

pub returns-in-App : goal.returns-in-App
returns-in-App c = record { value = function_given c.args.places.now c.args.world.now c.args.t.now _ _ c.in-App.is }
