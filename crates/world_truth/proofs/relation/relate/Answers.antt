use Rattle.std.proofs.Common.{ℕ, ◌+◌, [], ◌∷◌, length, refl, sym, subst}
use Rattle.std.specs.Prelude.{Some}
use Rattle.worlds.specs.declared.predicate.Predicate.TheVariants.{Between}
use Rattle.worlds.specs.inside.Extensions.{IsExtension}
use Rattle.worlds.specs.Predicates.{says}
use Rattle.world_truth.specs.inside.Relations.{relates}
use Rattle.world_truth.specs.inside.Tables.{bits_in}
use Rattle.worlds.specs.Worlds.{block_at}
use Rattle.worlds.proofs.Scaling.{set_extends}
use Rattle.world_truth.proofs.relation.relate.Goals as goal

pub returns-in-Between : goal.returns-in-Between
returns-in-Between c =
    let w = c.args.world.now in
    let third = block_at w c.in-Between.number in
    record {
      value = λ m l. subst (λ relation. IsExtension (length w) (λ (k : ℕ). relates w relation (k + 1) (m + 1)) (bits_in c.put_between.new.sets (c.args.first + m))) (sym c.in-Between.is)
          (set_extends w (λ b. says Between (Some b ∷ block_at w (m + 1) ∷ third ∷ [])) (λ o. says Between (o ∷ block_at w (m + 1) ∷ third ∷ [])) (bits_in c.put_between.new.sets (c.args.first + m)) (c.put_between.ensures.value m l) (λ b. refl));
      before = c.put_between.ensures.elsewhere;
    }

pub returns-in-Behind : goal.returns-in-Behind
returns-in-Behind c =
    let w = c.args.world.now in
    let third = block_at w c.in-Behind.number in
    record {
      value = λ m l. subst (λ relation. IsExtension (length w) (λ (k : ℕ). relates w relation (k + 1) (m + 1)) (bits_in c.put_behind.new.sets (c.args.first + m))) (sym c.in-Behind.is)
          (set_extends w (λ b. says Between (block_at w (m + 1) ∷ Some b ∷ third ∷ [])) (λ o. says Between (block_at w (m + 1) ∷ o ∷ third ∷ [])) (bits_in c.put_behind.new.sets (c.args.first + m)) (c.put_behind.ensures.value m l) (λ b. refl));
      before = c.put_behind.ensures.elsewhere;
    }

pub returns-in-Around : goal.returns-in-Around
returns-in-Around c =
    let w = c.args.world.now in
    let third = block_at w c.in-Around.number in
    record {
      value = λ m l. subst (λ relation. IsExtension (length w) (λ (k : ℕ). relates w relation (k + 1) (m + 1)) (bits_in c.put_around.new.sets (c.args.first + m))) (sym c.in-Around.is)
          (set_extends w (λ b. says Between (third ∷ Some b ∷ block_at w (m + 1) ∷ [])) (λ o. says Between (third ∷ o ∷ block_at w (m + 1) ∷ [])) (bits_in c.put_around.new.sets (c.args.first + m)) (c.put_around.ensures.value m l) (λ b. refl));
      before = c.put_around.ensures.elsewhere;
    }
