use Rattle.std.proofs.Common.{ℕ, ◌+◌, sym, ap, ap₂, ◌∙◌}
use Rattle.bit_sets.specs.BitSets.{has}
use Rattle.world_truth.specs.inside.Tables.{bits_in, join_two}
use Rattle.world_truth.proofs.Joining.{joined_none, joined_counted}
use Rattle.world_truth.proofs.table.Table.joined.Goals as goal

pub loop-before-init : goal.loop-before-init
loop-before-init c = λ k l. c.of_none-set.ensures.value k l ∙ sym (joined_none {X = ℕ} c.args.junction _)

pub loop-before-preserved : goal.loop-before-preserved
loop-before-preserved c = λ k l.
    let f = λ (m : ℕ). has (bits_in c.args.self.now (c.args.first + m)) k in
    c.join-set.ensures.value k l ∙ ap (λ o. o (has c.loop-before.set.bits k) (has c.row.result.bits k)) c.connective.ensures.value
    ∙ ap₂ (join_two c.args.junction) (c.loop-before.invariant k l) (ap (λ (b : ℕ). has b k) c.row.ensures.value) ∙ sym (joined_counted c.args.junction f c.loop-before.before)
