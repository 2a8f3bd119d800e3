use Rattle.std.proofs.Common.{◌≡◌, take, map, length}
use Rattle.fol_core.specs.Subst.{subst_where}
use Rattle.fol_core.specs.Put.{put}
use Rattle.fol_core.proofs.instance.+instance.Given as goal

abbrev pub invariant-are_instances-loop-i : goal.invariant-are_instances-loop-i
invariant-are_instances-loop-i l = record { long : length l.qs ≡ length l.ss; begun : take l.i l.ss ≡ map (λ q. subst_where l.x (put l.put_in) q l.free) (take l.i l.qs) }
