use Rattle.rules_prop.proofs.CasesShown.{EndingSoFar}
use Rattle.rules_prop.proofs.cases.ending_in.Given as goal

abbrev pub invariant-loop-i : goal.invariant-loop-i
invariant-loop-i l = EndingSoFar l.lines l.cites l.s l.i l.ending.bits
