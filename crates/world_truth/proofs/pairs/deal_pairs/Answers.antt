use Rattle.std.proofs.Common.{◌≡◌, ℕ, ◌+◌, ◌-◌, ◌<◌, ◌≤◌, length, ap, ap₂, sym, ◌∙◌, subst, arith}
use Rattle.std.specs.Prelude.{◌/◌}
use Rattle.std.proofs.lemmas.Nat.{mod_below}
use Rattle.bit_sets.specs.BitSets.{has}
use Rattle.worlds.specs.inside.Extensions.{IsExtension}
use Rattle.world_truth.specs.inside.Digits.{digit_of}
use Rattle.world_truth.specs.inside.Relations.{relates}
use Rattle.world_truth.specs.inside.Tables.{bits_in}
use Rattle.world_truth.proofs.Dealing.{none_dealt, more_dealt, digit_before}
use Rattle.world_truth.proofs.Pairing.{at_digit}
use Rattle.world_truth.proofs.pairs.deal_pairs.Goals as goal

pub loop-done-init : goal.loop-done-init
loop-done-init c = none_dealt _ _ c.args.extent.rows c.relate.new.sets (λ r _ l.
    let w = c.args.world.now in
    subst (λ (j : ℕ). IsExtension (length w) (λ k. relates w c.args.relation (k + 1) (r + 1)) (bits_in c.relate.new.sets j)) (omega arith) (c.relate.ensures.value r l))

pub loop-done-preserved : goal.loop-done-preserved
loop-done-preserved c =
    let w = c.args.world.now in
    let row = c.args.extent.rows - 1 - c.loop-done.done in
    let digit = digit_of (length w) c.args.second row in
    let is : c.digit.result ≡ digit = c.digit.ensures.value ∙ ap (λ (n : ℕ). digit_of n c.args.second row) c.block_count-count.ensures.value in
    let other : c.digit-in-loop-done.result ≡ digit_of (length w) c.args.first row = c.digit-in-loop-done.ensures.value ∙ ap (λ (n : ℕ). digit_of n c.args.first row) c.block_count-count.ensures.value in
    let set = c.loop-done.invariant.rest c.digit.result (subst (λ (n : ℕ). n + c.loop-done.done < c.args.extent.rows) (sym is) (digit_before (length w) c.args.second c.args.extent.rows c.loop-done.done c.loop-done-test.true))
    (subst (λ (n : ℕ). n < length w) (sym is) (mod_below (row / c.args.second) (length w) c.requires.some)) in
    let few : length w ≤ 64 = omega (arith, c.block_count-count.ensures.value, c.block_count-count.ensures.few) in
    more_dealt _ _ c.args.extent.rows c.loop-done.done _ c.loop-done.table c.put.new.self c.loop-done-test.true c.loop-done.invariant c.put.ensures.here c.put.ensures.elsewhere
    (λ k _ low. c.all_or_none.ensures.value k low ∙ c.has.ensures.value ∙ ap₂ has c.row-set.ensures.value other
    ∙ at_digit w (λ (j : ℕ). relates w c.args.relation (j + 1) (digit + 1)) (bits_in c.loop-done.table c.digit.result) c.args.first row c.requires.some few
    (subst (λ (n : ℕ). IsExtension (length w) (λ k. relates w c.args.relation (k + 1) (n + 1)) (bits_in c.loop-done.table c.digit.result)) is set))

pub returns : goal.returns
returns c = record { value = λ r l. c.loop-done.invariant.done r (omega (arith, c.loop-done-test.false)) l }
