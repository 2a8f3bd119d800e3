use Rattle.std.proofs.Common.{◌≡◌}
use Rattle.std.specs.Iterator.Adapters.{zip_first, zip_second}
use Rattle.std.specs.Slice.Iter.{iter_rest}
use Rattle.fol_text.specs.Occurrences.{first_false}
use Rattle.fol_text.proofs.marks.first_false.Given as goal

abbrev pub invariant-loop-mark : goal.invariant-loop-mark
invariant-loop-mark l = first_false (iter_rest (zip_first l.mark-iterator)) (iter_rest (zip_second l.mark-iterator)) ≡ first_false l.marks l.places
