use Rattle.world_truth.proofs.Placing.{placed_step}
use Rattle.world_truth.proofs.bound.number_of_place.Goals as goal

pub loop-place-preserved : goal.loop-place-preserved
loop-place-preserved c =
    placed_step c.args.world.now c.args.places.now c.loop-place.place-index c.place-item.result c.args.x.now c.loop-place.number c.latest-number.result c.loop-place-test.true c.place-item.is c.loop-place.invariant c.latest-number.ensures.value
