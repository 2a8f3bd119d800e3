use Rattle.std.proofs.Common.{ℕ, ◌+◌, length, ap, ◌∙◌}
use Rattle.std.specs.Prelude.{◌||◌}
use Rattle.bit_sets.specs.BitSets.{has}
use Rattle.world_truth.specs.inside.Digits.{digit_of}
use Rattle.world_truth.specs.inside.Relations.{relates}
use Rattle.world_truth.proofs.Pairing.{spread_extends}
use Rattle.world_truth.proofs.Spreading.{one_place_more}
use Rattle.world_truth.proofs.columns.spread_pairs.Goals as goal

pub loop-place-preserved : goal.loop-place-preserved
loop-place-preserved c =
    let w = c.args.world.now in
    let n = length w in
    let place = c.loop-place.place in
    let count = c.block_count-count.ensures.value in
    let r = λ (k j : ℕ). relates w c.args.relation (digit_of n c.args.first k + 1) (j + 1) in
    let said = spread_extends w (λ (j : ℕ). relates w c.args.relation (j + 1) (place + 1)) c.related.result.bits c.spread-related.result.bits c.args.first c.args.columns c.block_count-count.result c.requires.some c.block_count-count.ensures.few count c.related.ensures.value c.spread-related.ensures.value in
    λ k l low. one_place_more (digit_of n c.args.second k) place (r k) (has c.union-pairs.result.bits k) (has c.loop-place.pairs.bits k) (has c.spread-related.result.bits k) (has c.spread-here.result.bits k)
    (c.union-pairs.ensures.value k ∙ ap (λ b. has c.loop-place.pairs.bits k || b) (c.intersection.ensures.value k)) (c.loop-place.invariant k l low) (said k l low)
    (c.spread-here.ensures.value k l low ∙ ap (λ (m : ℕ). has c.only.result.bits (digit_of m c.args.second k)) count ∙ c.only.ensures.value _)
