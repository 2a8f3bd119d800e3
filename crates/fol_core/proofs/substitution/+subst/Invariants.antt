use Rattle.std.proofs.Common.{◌≡◌, take, map}
use Rattle.fol_core.specs.Subst.{subst_where}
use Rattle.fol_core.proofs.substitution.+subst.Given as goal

abbrev pub invariant-put_into_all-loop-part : goal.invariant-put_into_all-loop-part
invariant-put_into_all-loop-part l = l.done ≡ map (λ s. subst_where l.var l.term s l.free) (take l.part-index l.parts)
