use Rattle.std.proofs.Common.{ap, ◌∙◌}
use Rattle.deriv_laws.specs.Discharge.{without}
use Rattle.deriv_laws.specs.Trees.{undischarged}
use Rattle.deriv_laws.proofs.Discharging.{without_none, nothing_dropped}
use Rattle.deriv_laws.proofs.Avoiding.{tested}
use Rattle.deriv_laws.proofs.eigen.is_arbitrary.Goals as goal

pub returns : goal.returns
returns c =
    let open_ones = undischarged c.args.part.now in
    record { value = tested c.args.constant.now c.is_avoided.result _ open_ones c.is_avoided.ensures.value (ap (λ ds. without ds open_ones) nothing_dropped ∙ without_none open_ones) }
