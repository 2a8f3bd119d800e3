use Rattle.std.proofs.Common.{◌≡◌, min, take, map}
use Rattle.fol_core.specs.Size.{term_depth, greatest}
use Rattle.fol_core.proofs.size.+term_depth.Given as goal

abbrev pub invariant-deepest_term-loop-term : goal.invariant-deepest_term-loop-term
invariant-deepest_term-loop-term l = l.most ≡ min (greatest (map term_depth (take l.term-index l.terms))) 4294967295
