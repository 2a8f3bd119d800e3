use Rattle.std.proofs.Common.{◌≡◌, ◌++◌, take, map}
use Rattle.fol_text.specs.Bound.{words}
use Rattle.fol_text.specs.Occurrences.{joined, boundness}
use Rattle.fol_text.proofs.marks.+bound.Given as goal

abbrev pub invariant-add_all_bound-loop-part : goal.invariant-add_all_bound-loop-part
invariant-add_all_bound-loop-part l = l.marks ≡ l.fn.marks ++ joined (map (λ s. boundness s (words l.bound)) (take l.part-index l.parts))
