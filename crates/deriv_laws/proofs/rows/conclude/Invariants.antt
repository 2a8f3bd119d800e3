use Rattle.std.proofs.Common.{◌≡◌, take, length, map}
use Rattle.deriv_laws.specs.Trees.{concl}
use Rattle.deriv_laws.proofs.rows.conclude.Given as goal

abbrev pub invariant-loop-i : goal.invariant-loop-i
invariant-loop-i l = record { long : length l.parts ≡ length l.sentences; begun : map concl (take l.i l.parts) ≡ take l.i l.sentences }
