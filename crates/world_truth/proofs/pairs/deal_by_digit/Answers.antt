use Rattle.std.proofs.Common.{◌≡◌, ℕ, ◌+◌, ◌-◌, ◌<◌, length, ap, sym, ◌∙◌, subst, arith}
use Rattle.std.specs.Prelude.{◌/◌}
use Rattle.std.proofs.lemmas.Nat.{mod_below}
use Rattle.worlds.specs.inside.Extensions.{IsExtension}
use Rattle.world_truth.specs.inside.Digits.{digit_of}
use Rattle.world_truth.specs.inside.Relations.{relates}
use Rattle.world_truth.specs.inside.Tables.{bits_in}
use Rattle.world_truth.proofs.Dealing.{none_dealt, more_dealt, digit_before}
use Rattle.world_truth.proofs.Numerals.{last_of_few}
use Rattle.world_truth.proofs.pairs.deal_by_digit.Goals as goal

pub loop-done-init : goal.loop-done-init
loop-done-init c = none_dealt _ _ c.args.extent.rows c.relate_in_columns.new.sets (λ r _ l.
    let w = c.args.world.now in
    subst (λ (j : ℕ). IsExtension c.args.extent.columns (λ k. relates w c.args.relation (digit_of (length w) c.args.column k + 1) (r + 1)) (bits_in c.relate_in_columns.new.sets j)) (omega arith) (c.relate_in_columns.ensures.value r l))

pub loop-done-preserved : goal.loop-done-preserved
loop-done-preserved c =
    let w = c.args.world.now in
    let row = c.args.extent.rows - 1 - c.loop-done.done in
    let digit = digit_of (length w) c.args.stride row in
    let is : c.digit.result ≡ digit = c.digit.ensures.value ∙ ap (λ (n : ℕ). digit_of n c.args.stride row) c.block_count-count.ensures.value in
    let set = c.loop-done.invariant.rest c.digit.result (subst (λ (n : ℕ). n + c.loop-done.done < c.args.extent.rows) (sym is) (digit_before (length w) c.args.stride c.args.extent.rows c.loop-done.done c.loop-done-test.true))
    (subst (λ (n : ℕ). n < length w) (sym is) (mod_below (row / c.args.stride) (length w) c.requires.some)) in
    more_dealt _ _ c.args.extent.rows c.loop-done.done _ c.loop-done.table c.put.new.self c.loop-done-test.true c.loop-done.invariant (c.put.ensures.here ∙ c.row.ensures.value) c.put.ensures.elsewhere
    (subst (λ (n : ℕ). IsExtension c.args.extent.columns (λ k. relates w c.args.relation (digit_of (length w) c.args.column k + 1) (n + 1)) (bits_in c.loop-done.table c.digit.result)) is set)

pub returns : goal.returns
returns c = record { value = λ r l. c.loop-done.invariant.done r (omega (arith, c.loop-done-test.false)) l }

pub returns-then-extent-count : goal.returns-then-extent-count
returns-then-extent-count c =
    let w = c.args.world.now in
    let n = length w in
    let columns = c.args.extent.columns in
    record {
      value = λ r l. let few : r < n = omega (arith, l, c.if-extent-count.true, c.block_count-count.ensures.value) in
          let own : digit_of n c.args.stride r ≡ r = ap (λ (s : ℕ). digit_of n s r) c.if-stride-eq1.true ∙ last_of_few n r few in
          let pairs = λ (d j : ℕ). IsExtension columns (λ k. relates w c.args.relation (digit_of n c.args.column k + 1) (d + 1)) (bits_in c.relate_in_columns.new.sets j) in
          subst (λ (d : ℕ). pairs d r) (sym own) (subst (λ (j : ℕ). pairs r j) (omega arith) (c.relate_in_columns.ensures.value r few));
    }
