use Rattle.std.proofs.Common.{◌≡◌, take, length}
use Rattle.fol_core.proofs.alike.+terms.Given as goal

abbrev pub invariant-same_terms-loop-i : goal.invariant-same_terms-loop-i
invariant-same_terms-loop-i l = record { long : length l.a ≡ length l.b; begun : take l.i l.a ≡ take l.i l.b }
