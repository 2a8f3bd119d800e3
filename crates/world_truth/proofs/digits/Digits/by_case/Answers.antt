use Rattle.std.proofs.Common.{ℕ, ◌+◌, ap, sym, ◌∙◌}
use Rattle.world_truth.specs.inside.Digits.{digit_of, number_by}
use Rattle.world_truth.proofs.Numerals.{low_of_case, high_of_case}
use Rattle.world_truth.proofs.digits.Digits.by_case.Goals as goal

pub returns-then-stride-self : goal.returns-then-stride-self
returns-then-stride-self c = record {
  value = λ r k. ap (λ (d : ℕ). d + 1) (low_of_case c.args.count c.args.self r c.requires.some ∙ ap (λ (s : ℕ). digit_of c.args.count s r) (sym c.if-stride-self.true))
      ∙ ap (λ f. number_by c.args.count f r k) (sym c.in-ByRow.is);
}

pub returns-then-stride-self-2 : goal.returns-then-stride-self-2
returns-then-stride-self-2 c = record {
  value = λ r k. ap (λ (d : ℕ). d + 1) (high_of_case c.args.count c.args.self r c.requires.some ∙ ap (λ (s : ℕ). digit_of c.args.count s r) (sym c.if-stride-self-2.true))
      ∙ ap (λ f. number_by c.args.count f r k) (sym c.in-ByRow.is);
}
