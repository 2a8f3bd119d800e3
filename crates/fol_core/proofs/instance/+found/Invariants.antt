use Rattle.std.proofs.Common.{◌≡◌, drop}
use Rattle.fol_core.specs.Naming.{found_in, first_term}
use Rattle.fol_core.proofs.instance.+found.Given as goal

abbrev pub invariant-instance_term_in_terms-loop-i : goal.invariant-instance_term_in_terms-loop-i
invariant-instance_term_in_terms-loop-i l = first_term (found_in l.x l.free) l.ts l.us ≡ first_term (found_in l.x l.free) (drop l.i l.ts) (drop l.i l.us)
