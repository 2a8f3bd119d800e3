use Rattle.std.proofs.Common.{◌∙◌}
use Rattle.world_truth.proofs.Filling.{none_filled, more_filled}
use Rattle.world_truth.proofs.atomic.Atomic.tabulate_each.Goals as goal

pub loop-row-init : goal.loop-row-init
loop-row-init c = none_filled _ c.args.table.now

pub loop-row-preserved : goal.loop-row-preserved
loop-row-preserved c =
    let w = c.args.world.now in
    more_filled _ c.args.table.now c.loop-row.table c.put.new.self c.loop-row.row _ c.loop-row.invariant c.put.ensures.here c.put.ensures.elsewhere
    (λ k l low. c.in_columns-set.ensures.value k l low ∙ c.reduced.ensures.value w 0 k ∙ c.at.ensures.value w k c.block_count-count.ensures.value)
