use Rattle.std.proofs.Common.{ℕ}
use Rattle.worlds.specs.Assignments.{own_names, put}
use Rattle.world_truth.specs.Places.{given}
use Rattle.worlds.specs.Truth.{val}
use Rattle.world_truth.proofs.Extending.{some_of_extension}
use Rattle.world_truth.proofs.valuation.is_true_of_some.Goals as goal

pub returns : goal.returns
returns c =
    let w = c.args.world.now in let f = λ (k : ℕ). val w (put c.args.x.now k (given c.args.places.now (own_names w))) c.args.s.now in
    record { value = some_of_extension w f c.blocks_for.result.bits c.block_count.result c.has_one_of.result c.block_count.ensures.value c.block_count.ensures.few c.blocks_for.ensures.value c.has_one_of.ensures.one c.has_one_of.ensures.none }
