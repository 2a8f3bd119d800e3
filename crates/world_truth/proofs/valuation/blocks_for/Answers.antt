use Rattle.std.proofs.Common.{ℕ, ◌+◌, length, ap, ap₂, arith, ◌∙◌, mod-eq_of_lt}
use Rattle.std.specs.Prelude.{◌/◌}
use Rattle.worlds.specs.Assignments.{own_names, put}
use Rattle.bit_sets.specs.BitSets.{has}
use Rattle.world_truth.specs.Places.{given}
use Rattle.worlds.specs.Truth.{val}
use Rattle.world_truth.proofs.Standings.{standing_by_column, standing_given}
use Rattle.world_truth.proofs.valuation.blocks_for.Goals as goal

pub returns-then-count-eq0 : goal.returns-then-count-eq0
returns-then-count-eq0 c = record { value = λ k l _. absurd (omega (arith, l, c.if-count-eq0.true, c.block_count-count.ensures.value)) }

pub returns : goal.returns
returns c =
    let w = c.args.world.now in
    let n = length w in
    let names = given c.args.places.now (own_names w) in
    record {
      value = λ k l low. ap (λ (b : ℕ). has b k) c.row.ensures.value ∙ c.tabulate.ensures.value 0 (omega arith) k (omega (arith, l, c.block_count-count.ensures.value)) low
          ∙ ap (λ a. val w a c.args.s.now) (standing_by_column _ _ w 0 k ∙ ap₂ (λ (d : ℕ) a. put c.args.x.now (d + 1) a) (mod-eq_of_lt l) (standing_given _ w 0 (k / n)));
    }
