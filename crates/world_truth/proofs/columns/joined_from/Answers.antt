use Rattle.std.proofs.Common.{ℕ, ◌+◌, ap₂, sym, ◌∙◌}
use Rattle.bit_sets.specs.BitSets.{has}
use Rattle.world_truth.specs.inside.Tables.{join_two}
use Rattle.world_truth.proofs.Joining.{joined_none, joined_counted}
use Rattle.world_truth.proofs.columns.joined_from.Goals as goal

pub loop-before-init : goal.loop-before-init
loop-before-init c = c.value_of_none-value.ensures.value ∙ sym (joined_none {X = ℕ} c.args.junction _)

pub loop-before-preserved : goal.loop-before-preserved
loop-before-preserved c =
    let f = λ (m : ℕ). has c.args.set.bits (c.args.first + m) in
    c.join_two-value.ensures.value ∙ ap₂ (join_two c.args.junction) c.loop-before.invariant c.has.ensures.value ∙ sym (joined_counted c.args.junction f c.loop-before.before)
