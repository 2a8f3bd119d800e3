use Rattle.std.proofs.Common.{refl, arith}
use Rattle.world_truth.proofs.Grouping.{none_grouped, more_grouped}
use Rattle.world_truth.proofs.betweenness.put_around.Goals as goal

pub loop-place-init : goal.loop-place-init
loop-place-init c = none_grouped _ _ c.args.first c.args.sets.now c.args.sets.now (λ m. refl) (λ r _. refl)

pub loop-place-preserved : goal.loop-place-preserved
loop-place-preserved c =
    more_grouped _ _ c.args.first c.args.sets.now c.loop-place.sets c.put.new.self c.loop-place.place _ c.loop-place.invariant c.put.ensures.here c.put.ensures.elsewhere
    (c.around.ensures.value c.args.world.now c.args.number c.lines_of-lines.ensures.value (omega arith))
