use Rattle.std.proofs.Common.{ℕ, subst, arith, ◌∙◌}
use Rattle.world_truth.specs.inside.Tables.{AreGathered}
use Rattle.world_truth.proofs.Filling.{none_filled, more_filled}
use Rattle.world_truth.proofs.table.Table.gather.Goals as goal

pub loop-row-init : goal.loop-row-init
loop-row-init c = none_filled _ c.args.self.now

pub loop-row-preserved : goal.loop-row-preserved
loop-row-preserved c =
    more_filled _ c.args.self.now c.loop-row.self c.put.new.self c.loop-row.row _ c.loop-row.invariant c.put.ensures.here c.put.ensures.elsewhere
    (subst (λ (b : ℕ). AreGathered c.args.junction c.args.columns c.args.count b c.gathered.result.bits) (c.row.ensures.value ∙ c.loop-row.invariant.rest c.loop-row.row (omega arith)) c.gathered.ensures.value)
