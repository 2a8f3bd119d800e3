use Rattle.std.proofs.Common.{◌∷◌, ap, sym, ◌∙◌}
use Rattle.deriv_laws.specs.Discharge.{without, instance_of_ex}
use Rattle.deriv_laws.specs.Trees.{undischarged}
use Rattle.deriv_laws.specs.Dropped.{removed, removed_of}
use Rattle.deriv_laws.proofs.Discharging.{nothing_dropped, more_dropped}
use Rattle.deriv_laws.proofs.Avoiding.{tested}
use Rattle.deriv_laws.proofs.eigen.is_arbitrary_but_instance.Goals as goal

pub returns-in-None : goal.returns-in-None
returns-in-None c =
    let k = c.args.constant.now in
    let open_ones = undischarged c.args.part.now in
    let none = sym c.instance_by.ensures.value ∙ ap removed_of c.in-None.is in
    record { value = tested k c.is_avoided.result _ (without (instance_of_ex k c.args.s.now) open_ones) c.is_avoided.ensures.value (ap (λ ds. without ds open_ones) (nothing_dropped ∙ sym none)) }

pub returns-in-Some : goal.returns-in-Some
returns-in-Some c =
    let k = c.args.constant.now in
    let open_ones = undischarged c.args.part.now in
    let one = sym c.instance_by.ensures.value ∙ ap removed_of c.in-Some.is in
    record {
      value = tested k c.is_avoided-in-Some.result _ (without (instance_of_ex k c.args.s.now) open_ones) c.is_avoided-in-Some.ensures.value
          (ap (λ ds. without ds open_ones) (more_dropped c.in-Some.removed _ ∙ ap (λ ds. removed c.in-Some.removed ∷ ds) nothing_dropped ∙ sym one));
    }
