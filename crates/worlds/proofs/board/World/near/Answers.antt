use Rattle.std.proofs.Common.{ℕ, ◌+◌, subst, ◌∙◌}
use Rattle.std.specs.Prelude.{nat_lt}
use Rattle.worlds.specs.Scales.{measure_of, IsSetOf}
use Rattle.worlds.proofs.Scaling.{near_set}
use Rattle.worlds.proofs.board.World.near.Goals as goal

pub returns : goal.returns
returns c =
    let w = c.args.self.now in
    let f = measure_of c.args.measure in
    record {
      value = near_set w f c.args.number c.below-most.result.bits c.below-less.result.bits c.complement.result.bits c.intersection.result.bits
          (subst (λ (j : ℕ). IsSetOf w (λ b. nat_lt (f b) (j + 2)) c.below-most.result.bits) c.from.ensures c.below-most.ensures.value)
          (subst (λ (j : ℕ). IsSetOf w (λ b. nat_lt (f b) j) c.below-less.result.bits) (c.from-2.ensures ∙ c.saturating_sub.ensures) c.below-less.ensures.value) c.complement.ensures.value c.intersection.ensures.value;
    }
