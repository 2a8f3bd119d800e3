use Rattle.std.proofs.Common.{◌≡◌, ◌<◌, ℕ, ap, ◌∙◌, ◌+◌, length, arith, subst, sym}
use Rattle.worlds.specs.inside.Extensions.{IsExtension}
use Rattle.world_truth.specs.inside.Digits.{digit_of}
use Rattle.world_truth.specs.inside.Relations.{relates}
use Rattle.world_truth.proofs.Grouping.{none_grouped, more_grouped}
use Rattle.world_truth.proofs.Numerals.{last_of_few}
use Rattle.world_truth.proofs.Pairing.{spread_extends}
use Rattle.world_truth.proofs.pairs.relate_in_columns.Goals as goal

pub loop-place-init : goal.loop-place-init
loop-place-init c = none_grouped _ _ c.args.first c.args.sets.now c.relate.new.sets c.relate.ensures.value c.relate.ensures.before

pub loop-place-preserved : goal.loop-place-preserved
loop-place-preserved c =
    let w = c.args.world.now in
    let place = c.loop-place.place in
    let f = λ (k : ℕ). relates w c.args.relation (k + 1) (place + 1) in
    more_grouped _ _ c.args.first c.args.sets.now c.loop-place.sets c.put.new.self place _ c.loop-place.invariant c.put.ensures.here c.put.ensures.elsewhere
    (spread_extends w f c.row-set.result.bits c.spread.result.bits c.args.stride c.args.columns c.block_count-count.result c.requires.some c.block_count-count.ensures.few c.block_count-count.ensures.value
    (subst (λ (bits : ℕ). IsExtension (length w) f bits) (sym c.row-set.ensures.value) (c.loop-place.invariant.rest place (omega arith) (omega (arith, c.loop-place-test.true, c.block_count-count.ensures.value)))) c.spread.ensures.value)

pub returns-then-columns-count : goal.returns-then-columns-count
returns-then-columns-count c =
    let w = c.args.world.now in
    let n = length w in
    let count = c.block_count-count.ensures.value in
    record {
      value = λ m l k within low. let few : k < n = omega (arith, within, c.if-columns-count.true, count) in
          let own : digit_of n c.args.stride k ≡ k = ap (λ (s : ℕ). digit_of n s k) c.if-stride-eq1.true ∙ last_of_few n k few in
          c.relate.ensures.value m l k few low ∙ ap (λ (d : ℕ). relates w c.args.relation (d + 1) (m + 1)) (sym own);
      before = c.relate.ensures.before;
    }
