use Rattle.std.proofs.Common.{◌≡◌, ℕ, ◌+◌, ◌-◌, ap, ap₂, ◌∙◌, arith}
use Rattle.std.specs.Prelude.{◌/◌, ◌%◌, ◌&&◌, ◌||◌}
use Rattle.bit_sets.specs.BitSets.{has}
use Rattle.world_truth.proofs.Spreading.{one_run_more, in_runs}
use Rattle.world_truth.proofs.columns.spread_in_runs.Goals as goal

pub loop-done-init : goal.loop-done-init
loop-done-init c = λ k _ l. absurd (omega (arith, l))

pub loop-done-preserved : goal.loop-done-preserved
loop-done-preserved c =
    let set = c.args.set.bits in
    let runs = c.args.columns / c.args.stride + 1 in
    one_run_more (λ (j : ℕ). has set (j % c.args.count)) c.args.stride runs c.loop-done.done c.loop-done.spread.bits c.union-spread.result.bits c.has-is_in.result c.requires.long c.loop-done-test.true c.loop-done.invariant c.has-is_in.ensures.value
    (λ k low. c.union-spread.ensures.value k ∙ ap₂ (λ a b. a || b) (c.moved.ensures.value k low) (c.intersection-here.ensures.value k ∙ ap₂ (λ a b. a && b) (c.all_or_none.ensures.value k low) (c.before-run.ensures.value k)))

pub returns : goal.returns
returns c =
    let none : c.args.columns / c.args.stride + 1 - c.loop-done.done ≡ 0 = omega (arith, c.loop-done-test.false) in
    record {
      value = λ k l low. let q = k / c.args.stride in
          let plain : 0 + q ≡ q = omega arith in
          c.loop-done.invariant k low (omega (arith, c.loop-done-test.false, in_runs k c.args.columns c.args.stride c.requires.long l))
          ∙ ap (λ (j : ℕ). has c.args.set.bits (j % c.args.count)) (ap (λ (j : ℕ). j + q) none ∙ plain);
    }
