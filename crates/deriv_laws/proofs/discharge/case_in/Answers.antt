use Rattle.deriv_laws.proofs.Discharging.{case_found, case_past}
use Rattle.deriv_laws.proofs.discharge.case_in.Goals as goal

pub returns-in-Some : goal.returns-in-Some
returns-in-Some c = record { value = case_found c.args.cases.now c.args.i c.in-Some.case.now c.if-i-eq0.false c.in-Some.ensures.lookup.3.0 c.in-Some.ensures.lookup.1 }

pub returns-in-None : goal.returns-in-None
returns-in-None c = record { value = case_past c.args.cases.now c.args.i c.if-i-eq0.false c.in-None.ensures.lookup.3 }
