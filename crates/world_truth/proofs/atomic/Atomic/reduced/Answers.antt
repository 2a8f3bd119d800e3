use Rattle.std.proofs.Common.{◌≡◌, ap, sym, ◌∙◌, rules}
use Rattle.world_truth.specs.declared.atomic.Atomic.TheVariants.{Three}
use Rattle.world_truth.specs.declared.digits.Referent.TheVariants.{One}
use Rattle.worlds.specs.declared.predicate.Predicate.TheVariants.{Between}
use Rattle.world_truth.specs.inside.Referents.{block_by, value_by}
use Rattle.world_truth.proofs.Swapping.{says_swapped}
use Rattle.world_truth.proofs.atomic.Atomic.reduced.Goals as goal

pub returns-in-Three-default-One-default : goal.returns-in-Three-default-One-default
returns-in-Three-default-One-default c =
    let arm = c.in-Three-default-One-default in
    let self_is : c.args.self ≡ Three arm.s (One arm.n) arm.u = search rules in
    record { value = λ w r k. says_swapped Between (block_by w arm.s r k) (block_by w arm.u r k) (block_by w (One arm.n) r k) ∙ ap (λ a. value_by w a r k) (sym self_is) }
