use Rattle.std.proofs.Common.{◌≡◌, take, map}
use Rattle.fol_core.specs.Subst.{subst_term}
use Rattle.fol_core.proofs.substitution.+put_term.Given as goal

abbrev pub invariant-put_into_terms-loop-one : goal.invariant-put_into_terms-loop-one
invariant-put_into_terms-loop-one l = l.done ≡ map (subst_term l.var l.term l.free) (take l.one-index l.terms)
