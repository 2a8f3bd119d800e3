use Rattle.std.proofs.Common.{◌≡◌, take, map, length}
use Rattle.fol_core.specs.Subst.{subst_term}
use Rattle.fol_core.specs.Put.{put}
use Rattle.fol_core.proofs.instance.+instance_term.Given as goal

abbrev pub invariant-are_instances_of_terms-loop-i : goal.invariant-are_instances_of_terms-loop-i
invariant-are_instances_of_terms-loop-i l = record { long : length l.ts ≡ length l.us; begun : take l.i l.us ≡ map (subst_term l.x (put l.put_in) l.free) (take l.i l.ts) }
