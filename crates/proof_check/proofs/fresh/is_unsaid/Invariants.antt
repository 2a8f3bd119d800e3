use Rattle.std.proofs.Common.{◌≡◌, ◌≤◌}
use Rattle.nested_proofs.specs.Hearing.{silent}
use Rattle.proof_check.proofs.fresh.is_unsaid.Given as goal

abbrev pub invariant-loop-number : goal.invariant-loop-number
invariant-loop-number l = record {
  within : l.number ≤ l.count;
  same : silent l.c l.lines l.count l.v ≡ silent l.c l.lines l.number l.reach;
}

abbrev pub decreases-loop-number : goal.decreases-loop-number
decreases-loop-number l = l.number
