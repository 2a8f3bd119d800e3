use Rattle.std.proofs.Common.{◌+◌}
use Rattle.proof_check.specs.Readers.{PassBefore}
use Rattle.proof_check.proofs.check.first_fault.Given as goal

abbrev pub invariant-loop-i : goal.invariant-loop-i
invariant-loop-i l = PassBefore l.task l.lines (l.i + 1)
