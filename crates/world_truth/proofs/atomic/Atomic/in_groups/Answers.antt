use Rattle.std.proofs.Common.{◌≡◌, ℕ, ◌+◌, ◌*◌, ap, sym, ◌∙◌, rules}
use Rattle.std.proofs.lemmas.Option.{IfSome_then}
use Rattle.world_truth.specs.declared.atomic.Atomic.TheVariants.{Three}
use Rattle.world_truth.specs.declared.digits.Referent.TheVariants.{ByRow, ByColumn}
use Rattle.worlds.specs.declared.predicate.Predicate.TheVariants.{Between}
use Rattle.world_truth.specs.inside.Referents.{block_by, value_by}
use Rattle.world_truth.proofs.Swapping.{says_swapped}
use Rattle.world_truth.proofs.atomic.Atomic.in_groups.Goals as goal

pub returns-in-Three-ByRow-ByRow-ByColumn : goal.returns-in-Three-ByRow-ByRow-ByColumn
returns-in-Three-ByRow-ByRow-ByColumn c =
    let arm = c.in-Three-ByRow-ByRow-ByColumn in
    let found = c.row_first-in-Three-ByRow-ByRow-ByColumn in
    let self_is : c.args.self ≡ Three (ByRow arm.m) (ByRow arm.n) (ByColumn arm.x) = search rules in
    record {
      value = IfSome_then found.result found.ensures.value
          (λ p said. λ w (group r k : ℕ) e within l. let row = group * c.args.count + r in
          said w group r k e within l ∙ says_swapped Between (block_by w (ByRow arm.m) row k) (block_by w (ByColumn arm.x) row k) (block_by w (ByRow arm.n) row k) ∙ ap (λ a. value_by w a row k) (sym self_is));
    }
