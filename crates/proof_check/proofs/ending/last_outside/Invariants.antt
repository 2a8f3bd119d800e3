use Rattle.std.proofs.Common.{◌≡◌, ◌+◌, drop}
use Rattle.proof_check.specs.Readers.{last_outside as last_outside_of}
use Rattle.proof_check.proofs.ending.last_outside.Given as goal

abbrev pub invariant-loop-i : goal.invariant-loop-i
invariant-loop-i l = last_outside_of (l.i + 1) l.last (drop l.i l.lines) ≡ last_outside_of 1 0 l.lines
