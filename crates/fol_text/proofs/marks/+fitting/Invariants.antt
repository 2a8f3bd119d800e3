use Rattle.std.proofs.Common.{◌≡◌, ◌++◌, take, map}
use Rattle.fol_text.specs.Occurrences.{joined, fitting}
use Rattle.fol_text.proofs.marks.+fitting.Given as goal

abbrev pub invariant-add_all_fitting-loop-part : goal.invariant-add_all_fitting-loop-part
invariant-add_all_fitting-loop-part l = l.marks ≡ l.fn.marks ++ joined (map fitting (take l.part-index l.parts))
