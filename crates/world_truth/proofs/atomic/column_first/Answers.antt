use Rattle.std.proofs.Common.{◌≡◌, ℕ, ◌+◌, [], ◌∷◌, ◌∙◌, inl, inr}
use Rattle.worlds.specs.declared.predicate.Predicate.TheVariants.{Between}
use Rattle.world_truth.specs.inside.Digits.{digit_of}
use Rattle.worlds.specs.Predicates.{says}
use Rattle.worlds.specs.Worlds.{block_at}
use Rattle.world_truth.proofs.Numerals.{in_group_said}
use Rattle.world_truth.proofs.Swapping.{says_swapped}
use Rattle.world_truth.proofs.atomic.column_first.Goals as goal

pub returns-then-n-eq1 : goal.returns-then-n-eq1
returns-then-n-eq1 c = record {
  value = λ w (group r k : ℕ) e within l. let turned = λ (first : c.args.m ≡ c.args.count) (second : c.args.n ≡ 1).
      says_swapped Between (block_at w (digit_of c.args.count c.args.x k + 1)) (block_at w (r + 1)) (block_at w (group + 1))
      ∙ in_group_said w (λ a b d. says Between (block_at w a ∷ block_at w d ∷ block_at w b ∷ [])) c.args.x c.args.m c.args.n c.args.count group r k e first second within l in
      elim c.if-n-eq1.either [
        | inl one ↦ in_group_said w (λ a b d. says Between (block_at w a ∷ block_at w b ∷ block_at w d ∷ [])) c.args.x c.args.n c.args.m c.args.count group r k e one.1 one.0 within l
        | inr (inl other) ↦ turned other.2 other.3
        | inr (inr other) ↦ turned other.1 other.2
      ];
}
