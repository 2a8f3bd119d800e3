use Rattle.std.proofs.Common.{◌≡◌, drop}
use Rattle.fol_core.specs.Naming.{term_where, first_term}
use Rattle.fol_core.proofs.instance.+naming.Given as goal

abbrev pub invariant-instance_term_in-loop-i : goal.invariant-instance_term_in-loop-i
invariant-instance_term_in-loop-i l = first_term (λ q s. term_where l.x q l.free s) l.qs l.ss ≡ first_term (λ q s. term_where l.x q l.free s) (drop l.i l.qs) (drop l.i l.ss)
