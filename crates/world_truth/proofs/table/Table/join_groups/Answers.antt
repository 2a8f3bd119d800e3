use Rattle.std.proofs.Common.{ℕ, ◌+◌, ◌*◌, ap, ◌∙◌, arith}
use Rattle.bit_sets.specs.BitSets.{has}
use Rattle.world_truth.specs.inside.Tables.{bits_in}
use Rattle.world_truth.proofs.Filling.{none_filled, more_filled, not_before}
use Rattle.world_truth.proofs.Joining.{joined_shifted}
use Rattle.world_truth.proofs.table.Table.join_groups.Goals as goal

pub loop-row-init : goal.loop-row-init
loop-row-init c = none_filled _ c.args.self.now

pub loop-row-preserved : goal.loop-row-preserved
loop-row-preserved c =
    let first = c.loop-row.row * c.args.count in
    more_filled _ c.args.self.now c.loop-row.self c.put.new.self c.loop-row.row _ c.loop-row.invariant c.put.ensures.here c.put.ensures.elsewhere
    (λ k l. c.joined.ensures.value k l
    ∙ joined_shifted c.args.junction (λ (m : ℕ). has (bits_in c.loop-row.self (first + m)) k) (λ (m : ℕ). has (bits_in c.args.self.now (first + m)) k) 0 0 c.args.count
    (λ m _. ap (λ (b : ℕ). has b k) (c.loop-row.invariant.rest (first + (0 + m)) (omega (arith, not_before c.loop-row.row c.args.count c.requires.some)))))
