use Rattle.std.proofs.Common.{◌≡◌, ◌++◌, take, map}
use Rattle.deriv_laws.specs.Discharge.{without, joined}
use Rattle.deriv_laws.specs.Trees.{undischarged}
use Rattle.deriv_laws.specs.Dropped.{sentences, in_parts}
use Rattle.deriv_laws.proofs.leaves.+open.Given as goal

abbrev pub invariant-put_open_of_all-loop-i : goal.invariant-put_open_of_all-loop-i
invariant-put_open_of_all-loop-i l = l.assumptions ≡ l.fn.assumptions ++ without (sentences l.dropped) (joined (map undischarged (take l.i l.parts)) (in_parts l.discharge))
