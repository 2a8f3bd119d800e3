use Rattle.std.proofs.Common.{◌≡◌, ◌≤◌}
use Rattle.nested_proofs.specs.Enclosing.{last_below}
use Rattle.nested_proofs.proofs.lines.last_below.Given as goal

abbrev pub invariant-loop-number : goal.invariant-loop-number
invariant-loop-number l = record {
  within : l.number ≤ l.count;
  same : last_below l.depth l.lines l.count ≡ last_below l.depth l.lines l.number;
}

abbrev pub decreases-loop-number : goal.decreases-loop-number
decreases-loop-number l = l.number
