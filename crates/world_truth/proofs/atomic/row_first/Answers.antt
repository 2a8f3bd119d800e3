use Rattle.std.proofs.Common.{[], ◌∷◌}
use Rattle.worlds.specs.declared.predicate.Predicate.TheVariants.{Between}
use Rattle.worlds.specs.Predicates.{says}
use Rattle.worlds.specs.Worlds.{block_at}
use Rattle.world_truth.proofs.Numerals.{in_group_said}
use Rattle.world_truth.proofs.atomic.row_first.Goals as goal

pub returns-then-n-count : goal.returns-then-n-count
returns-then-n-count c = record {
  value = λ w group r k e within l. in_group_said w (λ a b d. says Between (block_at w b ∷ block_at w a ∷ block_at w d ∷ [])) c.args.x c.args.n c.args.m c.args.count group r k e c.if-n-count.true c.if-m-eq1.true within l;
}

pub returns-then-n-eq1 : goal.returns-then-n-eq1
returns-then-n-eq1 c = record {
  value = λ w group r k e within l. in_group_said w (λ a b d. says Between (block_at w d ∷ block_at w a ∷ block_at w b ∷ [])) c.args.x c.args.m c.args.n c.args.count group r k e c.if-m-count.true c.if-n-eq1.true within l;
}
