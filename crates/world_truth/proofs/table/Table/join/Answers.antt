use Rattle.std.proofs.Common.{ℕ, ap₂, ◌∙◌, arith}
use Rattle.bit_sets.specs.BitSets.{has}
use Rattle.world_truth.specs.inside.Tables.{connect}
use Rattle.world_truth.proofs.Filling.{none_filled, more_filled}
use Rattle.world_truth.proofs.table.Table.join.Goals as goal

pub loop-row-init : goal.loop-row-init
loop-row-init c = none_filled _ c.args.self.now

pub loop-row-preserved : goal.loop-row-preserved
loop-row-preserved c =
    more_filled _ c.args.self.now c.loop-row.self c.put.new.self c.loop-row.row _ c.loop-row.invariant c.put.ensures.here c.put.ensures.elsewhere
    (λ k l. c.join.ensures.value k l
    ∙ ap₂ (λ (a b : ℕ). connect c.args.connective (has a k) (has b k)) (c.row.ensures.value ∙ c.loop-row.invariant.rest c.loop-row.row (omega arith)) c.row-in-loop-row.ensures.value)
