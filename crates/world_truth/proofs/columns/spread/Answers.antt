use Rattle.std.proofs.Common.{ℕ, ap, sym, arith, ◌∙◌, div-one, mod-eq_of_lt, inl, inr}
use Rattle.std.specs.Prelude.{◌%◌}
use Rattle.bit_sets.specs.BitSets.{has}
use Rattle.world_truth.specs.inside.Digits.{digit_of}
use Rattle.world_truth.proofs.Spreading.{no_digit, no_place}
use Rattle.world_truth.proofs.columns.spread.Goals as goal

pub returns-then-stride-ge64 : goal.returns-then-stride-ge64
returns-then-stride-ge64 c = record {
  value = λ k _ low. c.all_or_none.ensures.value k low ∙ c.has.ensures.value
      ∙ ap (has c.args.set.bits) (sym (elim c.if-stride-ge64.either [ inl none ↦ no_digit c.args.count c.args.stride k none | inr great ↦ no_place c.args.count c.args.stride k (omega (arith, great.1, low)) ]));
}

pub returns-then-columns-count : goal.returns-then-columns-count
returns-then-columns-count c = record {
  value = λ k l _. sym (ap (has c.args.set.bits) (ap (λ (n : ℕ). digit_of c.args.count n k) c.if-stride-eq1.true ∙ ap (λ (n : ℕ). n % c.args.count) (div-one k) ∙ mod-eq_of_lt (omega (arith, l, c.if-columns-count.true))));
}
