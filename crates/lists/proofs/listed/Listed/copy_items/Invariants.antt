use Rattle.std.proofs.Common.{◌≡◌, take}
use Rattle.lists.proofs.listed.Listed.copy_items.Given as goal

-- What is copied so far is what the items before this one are.
abbrev pub invariant-loop-item : goal.invariant-loop-item
invariant-loop-item g l = l.copies ≡ take l.item-index l.item-items
