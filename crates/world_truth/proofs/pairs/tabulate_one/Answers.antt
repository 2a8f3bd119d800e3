use Rattle.std.proofs.Common.{[], ◌∷◌, ◌+◌, ℕ, ap, sym, refl, ◌∙◌}
use Rattle.worlds.specs.Predicates.{says, says_of_one}
use Rattle.world_truth.specs.inside.Referents.{block_by}
use Rattle.worlds.specs.Worlds.{block_at}
use Rattle.world_truth.proofs.Pairing.{at_digit}
use Rattle.worlds.proofs.Scaling.{set_extends}
use Rattle.world_truth.proofs.pairs.tabulate_one.Goals as goal

pub returns-in-ByRow : goal.returns-in-ByRow
returns-in-ByRow c =
    let w = c.args.world.now in
    let set = set_extends w (says_of_one c.args.predicate) (λ o. says c.args.predicate (o ∷ [])) c.having.result.bits c.having.ensures.value (λ b. refl) in
    record {
      value = λ r l k _ low. c.deal_members.ensures.value r l k low
          ∙ at_digit w (λ (j : ℕ). says c.args.predicate (block_at w (j + 1) ∷ [])) c.having.result.bits c.in-ByRow.stride r c.requires.some c.deal_members.ensures.few set
          ∙ ap (λ a. says c.args.predicate (block_by w a r k ∷ [])) (sym c.in-ByRow.is);
    }
