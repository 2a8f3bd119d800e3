use Rattle.std.proofs.Common.{ap, sym, ◌∙◌}
use Rattle.deriv_laws.specs.Dropped.{removed_of, in_parts, list_at}
use Rattle.deriv_laws.specs.declared.discharge.Discharge.{Discharge}
use Rattle.deriv_laws.proofs.Discharging.{list_throughout, past_throughout}
use Rattle.deriv_laws.proofs.discharge.discharged_in.Goals as goal

pub returns-then-i-count : goal.returns-then-i-count
returns-then-i-count c = record { value = list_throughout (removed_of c.in-Throughout.s) c.in-Throughout.count c.args.i c.if-i-count.true ∙ ap (λ (d : Discharge). list_at (in_parts d) c.args.i) (sym c.in-Throughout.is) }

pub returns-else-i-count : goal.returns-else-i-count
returns-else-i-count c = record { value = past_throughout (removed_of c.in-Throughout.s) c.in-Throughout.count c.args.i c.if-i-count.false ∙ ap (λ (d : Discharge). list_at (in_parts d) c.args.i) (sym c.in-Throughout.is) }
