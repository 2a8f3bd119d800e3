use Rattle.std.proofs.Common.{◌≡◌, take, map, true}
use Rattle.deriv_laws.specs.Discharge.{without, joined}
use Rattle.deriv_laws.specs.Trees.{undischarged}
use Rattle.deriv_laws.specs.Dropped.{sentences, in_parts, avoids}
use Rattle.deriv_laws.proofs.eigen.+eigen.Given as goal

abbrev pub invariant-is_avoided_in_all-loop-i : goal.invariant-is_avoided_in_all-loop-i
invariant-is_avoided_in_all-loop-i l = avoids l.constant (without (sentences l.dropped) (joined (map undischarged (take l.i l.parts)) (in_parts l.discharge))) ≡ true
