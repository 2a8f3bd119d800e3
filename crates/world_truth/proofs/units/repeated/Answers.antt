use Rattle.std.proofs.Common.{◌∙◌}
use Rattle.world_truth.proofs.Saturating.{product}
use Rattle.world_truth.proofs.units.repeated.Goals as goal

pub returns : goal.returns
returns c = record { value = λ n e. c.saturating_add.ensures ∙ product n c.args.count c.args.units c.saturating_mul.result e c.saturating_mul.ensures }
