use Rattle.std.proofs.Common.{◌≡◌, ◌<◌, take, map}
use Rattle.tableau_branch.specs.inside.Weight.{mixed, weight}
use Rattle.tableau_branch.proofs.weight.+weight.Given as goal

abbrev pub invariant-mix_parts-loop-one : goal.invariant-mix_parts-loop-one
invariant-mix_parts-loop-one l = (l.weight < 65521) × (l.fn.start < 65521 → l.weight ≡ mixed l.fn.start (map weight (take l.one-index l.parts)))
