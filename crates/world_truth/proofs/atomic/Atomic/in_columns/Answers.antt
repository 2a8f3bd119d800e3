use Rattle.std.proofs.Common.{◌≡◌, ℕ, ◌+◌, [], ◌∷◌, rules, subst, sym, refl}
use Rattle.world_truth.specs.declared.atomic.Atomic.TheVariants.{One}
use Rattle.world_truth.specs.declared.digits.Referent.TheVariants.{ByColumn}
use Rattle.worlds.specs.inside.Extensions.{IsExtension}
use Rattle.worlds.specs.Predicates.{says, says_of_one}
use Rattle.world_truth.specs.inside.Referents.{value_by}
use Rattle.worlds.specs.Worlds.{block_at}
use Rattle.world_truth.proofs.Pairing.{spread_extends}
use Rattle.worlds.proofs.Scaling.{set_extends}
use Rattle.world_truth.proofs.atomic.Atomic.in_columns.Goals as goal

pub returns-in-One-default-ByColumn : goal.returns-in-One-default-ByColumn
returns-in-One-default-ByColumn c =
    let w = c.args.world.now in
    let arm = c.in-One-default-ByColumn in
    let self_is : c.args.self ≡ One arm.predicate (ByColumn arm.stride) = search rules in
    let set = set_extends w (says_of_one arm.predicate) (λ o. says arm.predicate (o ∷ [])) c.having.result.bits c.having.ensures.value (λ b. refl) in
    record {
      value = subst (λ a. IsExtension c.args.columns (value_by w a 0) c.spread.result.bits) (sym self_is)
          (spread_extends w (λ (j : ℕ). says arm.predicate (block_at w (j + 1) ∷ [])) c.having.result.bits c.spread.result.bits arm.stride c.args.columns c.block_count-count.result c.requires.some c.block_count-count.ensures.few c.block_count-count.ensures.value set c.spread.ensures.value);
    }
