use Rattle.std.proofs.Common.{sym, ◌∙◌}
use Rattle.worlds.specs.Assignments.{own_names}
use Rattle.world_truth.proofs.Placing.{given_name}
use Rattle.world_truth.proofs.bound.number_past_places.Goals as goal

pub returns : goal.returns
returns c = record { value = c.number_of_bearer.ensures.value ∙ sym (given_name c.args.places.now (own_names c.args.world.now) c.args.n.now) }
