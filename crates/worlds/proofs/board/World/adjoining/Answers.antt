use Rattle.std.proofs.Common.{ℕ, subst}
use Rattle.std.specs.Prelude.{◌==◌, nat_le}
use Rattle.worlds.specs.Geometry.{apart}
use Rattle.worlds.specs.Scales.{IsSetOf}
use Rattle.worlds.proofs.Scaling.{side_set}
use Rattle.worlds.proofs.board.World.adjoining.Goals as goal

pub returns : goal.returns
returns c =
    let w = c.args.self.now in
    record {
      value = side_set w c.args.c.now c.same.result.bits c.near.result.bits c.same-2.result.bits c.near-2.result.bits c.intersection-in_row.result.bits c.intersection-in_column.result.bits c.symmetric_difference.result.bits
          (subst (λ (n : ℕ). IsSetOf w (λ b. b.row == n) c.same.result.bits) c.of.ensures.value c.same.ensures.value) (subst (λ (n : ℕ). IsSetOf w (λ b. nat_le (apart b.column n) 1) c.near.result.bits) c.of-2.ensures.value c.near.ensures.value)
          (subst (λ (n : ℕ). IsSetOf w (λ b. b.column == n) c.same-2.result.bits) c.of-3.ensures.value c.same-2.ensures.value) (subst (λ (n : ℕ). IsSetOf w (λ b. nat_le (apart b.row n) 1) c.near-2.result.bits) c.of-4.ensures.value c.near-2.ensures.value)
          c.intersection-in_row.ensures.value c.intersection-in_column.ensures.value c.symmetric_difference.ensures.value;
    }
