use Rattle.std.proofs.Common.{◌∙◌}
use Rattle.world_truth.specs.inside.Bound.{standing}
use Rattle.world_truth.proofs.NoFunctions.{function_at}
use Rattle.world_truth.proofs.Terms.{is_variable, is_name}
use Rattle.world_truth.proofs.bound.referent_of.Goals as goal

pub returns-in-Var : goal.returns-in-Var
returns-in-Var c = record { value = λ r k low narrow. c.referent_of_variable.ensures.value r k low narrow ∙ is_variable (standing c.args.bound.now c.args.world.now r k) c.args.t.now _ c.in-Var.is }

pub returns-in-Name : goal.returns-in-Name
returns-in-Name c = record { value = λ r k _ _. c.number_of_name.ensures.value r k ∙ is_name (standing c.args.bound.now c.args.world.now r k) c.args.t.now _ c.in-Name.is }

pub returns-in-App : goal.returns-in-App
returns-in-App c = record { value = λ r k _ _. function_at c.args.bound.now c.args.world.now r k c.args.t.now _ _ c.in-App.is }
