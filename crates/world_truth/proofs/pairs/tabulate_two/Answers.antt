use Rattle.std.proofs.Common.{ℕ, ◌+◌, length, ap₂, sym, ◌∙◌}
use Rattle.world_truth.specs.inside.Digits.{number_by}
use Rattle.world_truth.specs.inside.Relations.{relates}
use Rattle.world_truth.proofs.Pairing.{at_digit}
use Rattle.world_truth.proofs.pairs.tabulate_two.Goals as goal

pub returns-in-ByRow-One : goal.returns-in-ByRow-One
returns-in-ByRow-One c =
    let w = c.args.world.now in
    let arm = c.in-ByRow-One in
    record {
      value = λ r l k _ low. c.deal_members.ensures.value r l k low
          ∙ at_digit w (λ (j : ℕ). relates w c.args.relation (j + 1) arm.n) c.related.result.bits arm.stride r c.requires.some c.deal_members.ensures.few c.related.ensures.value
          ∙ ap₂ (λ s t. relates w c.args.relation (number_by (length w) s r k) (number_by (length w) t r k)) (sym arm.is-0) (sym arm.is-1);
    }

pub returns-in-One-ByRow : goal.returns-in-One-ByRow
returns-in-One-ByRow c =
    let w = c.args.world.now in
    let arm = c.in-One-ByRow in
    let back = c.converse-in-One-ByRow in
    record {
      value = λ r l k _ low. c.deal_members-in-One-ByRow.ensures.value r l k low
          ∙ at_digit w (λ (j : ℕ). relates w back.result (j + 1) arm.m) c.related-set.result.bits arm.stride r c.requires.some c.deal_members-in-One-ByRow.ensures.few c.related-set.ensures.value
          ∙ back.ensures.value w _ arm.m
          ∙ ap₂ (λ s t. relates w c.args.relation (number_by (length w) s r k) (number_by (length w) t r k)) (sym arm.is-0) (sym arm.is-1);
    }
