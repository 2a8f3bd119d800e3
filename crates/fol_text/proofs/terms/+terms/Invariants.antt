use Rattle.std.proofs.Common.{◌≤◌, ◌+◌, ◌*◌, length}
use Rattle.fol_text.specs.Straight.{TermsRead}
use Rattle.fol_text.proofs.terms.+terms.Given as goal

abbrev pub decreases-arguments : goal.decreases-arguments
decreases-arguments l = l.room * 3 + 2

abbrev pub decreases-term : goal.decreases-term
decreases-term l = l.room * 3 + 1

abbrev pub decreases-term_behind : goal.decreases-term_behind
decreases-term_behind l = l.room * 3

abbrev pub invariant-arguments-loop : goal.invariant-arguments-loop
invariant-arguments-loop l = record {
  read : TermsRead l.room l.fn.text l.terms l.rest;
  one : 1 ≤ length l.terms;
}
