use Rattle.std.proofs.Common.{◌≡◌, ◌≤◌, take, length}
use Rattle.tableau_branch.specs.inside.Index.{IsIndexed}
use Rattle.tableau_branch.proofs.indexed.Indexed.undo.Given as goal

abbrev pub invariant-loop-self : goal.invariant-loop-self
invariant-loop-self l = record {
  kept : take l.mark l.self-inside.trail ≡ take l.mark l.fn.self;
  enough : l.mark ≤ length l.self-inside.trail;
  indexed : IsIndexed l.self-inside.trail l.self-inside.buckets.items;
}

abbrev pub decreases-loop-self : goal.decreases-loop-self
decreases-loop-self l = length l.self-inside.trail
