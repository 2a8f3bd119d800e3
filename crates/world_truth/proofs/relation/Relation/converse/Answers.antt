use Rattle.std.proofs.Common.{ℕ, ap, sym, ◌∙◌}
use Rattle.worlds.specs.declared.predicate.Predicate.TheVariants.{Between}
use Rattle.world_truth.specs.inside.Relations.{relates}
use Rattle.worlds.specs.Worlds.{block_at}
use Rattle.world_truth.proofs.Swapping.{says_swapped}
use Rattle.world_truth.proofs.relation.Relation.converse.Goals as goal

pub returns-in-Around : goal.returns-in-Around
returns-in-Around c = record { value = λ w (m n : ℕ). says_swapped Between (block_at w c.in-Around.number) (block_at w m) (block_at w n) ∙ ap (λ f. relates w f n m) (sym c.in-Around.is) }
