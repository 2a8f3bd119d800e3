use Rattle.std.proofs.Common.{◌≡◌, ◌≤◌, ◌-◌}
use Rattle.nested_proofs.specs.ReadOff.{concluded_by, subproof_between}
use Rattle.nested_proofs.proofs.read_off.cited_conclusion.Given as goal

abbrev pub invariant-loop-number : goal.invariant-loop-number
invariant-loop-number l = record {
  within : l.number ≤ l.fn.cite.last;
  after : l.fn.cite.first ≤ l.number;
  same : concluded_by (subproof_between l.lines l.fn.cite.first l.fn.cite.last) ≡ concluded_by (subproof_between l.lines l.fn.cite.first l.number);
}

abbrev pub decreases-loop-number : goal.decreases-loop-number
decreases-loop-number l = l.number - l.first
