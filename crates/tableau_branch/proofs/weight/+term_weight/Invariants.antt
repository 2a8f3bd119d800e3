use Rattle.std.proofs.Common.{◌≡◌, ◌<◌, take, map}
use Rattle.tableau_branch.specs.inside.Weight.{mixed, term_weight}
use Rattle.tableau_branch.proofs.weight.+term_weight.Given as goal

abbrev pub invariant-mix_terms-loop-one : goal.invariant-mix_terms-loop-one
invariant-mix_terms-loop-one l = (l.weight < 65521) × (l.fn.start < 65521 → l.weight ≡ mixed l.fn.start (map term_weight (take l.one-index l.terms)))
