use Rattle.std.proofs.Common.{ap, ap₂, sym, ◌∙◌}
use Rattle.std.specs.Prelude.{◌&&◌}
use Rattle.bit_sets.specs.BitSets.{has}
use Rattle.worlds.specs.Geometry.{is_inside}
use Rattle.world_truth.proofs.Lining.{between_set, none_of_line}
use Rattle.world_truth.proofs.betweenness.Lines.between.Goals as goal

pub returns-then-has : goal.returns-then-has
returns-then-has c = record {
  value = λ w n h l. between_set w n c.args.self c.args.other c.intersection.result.bits h l
      (λ k low. c.intersection.ensures.value k ∙ ap₂ (λ p q. p && q) (ap (λ bits. has bits k) c.through.ensures.value) (c.inside.ensures.value k low));
}

pub returns-else-has : goal.returns-else-has
returns-else-has c = record {
  value = λ w n h l. between_set w n c.args.self c.args.other 0 h l
      (λ k low. none_of_line c.args.self c.args.other k (is_inside k c.args.other c.args.self.place) (sym c.has.ensures.value ∙ c.if-has.false));
}
