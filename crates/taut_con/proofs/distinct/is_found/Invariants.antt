use Rattle.taut_con.proofs.ByDigest.{Searched}
use Rattle.taut_con.proofs.distinct.is_found.Given as goal

abbrev pub invariant-loop-number : goal.invariant-loop-number
invariant-loop-number l = Searched l.sentences l.s l.number

abbrev pub decreases-loop-number : goal.decreases-loop-number
decreases-loop-number l = l.number
