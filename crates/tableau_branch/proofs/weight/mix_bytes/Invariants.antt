use Rattle.std.proofs.Common.{◌≡◌, ◌<◌, take}
use Rattle.tableau_branch.specs.inside.Weight.{mixed}
use Rattle.tableau_branch.proofs.weight.mix_bytes.Given as goal

abbrev pub invariant-loop-byte : goal.invariant-loop-byte
invariant-loop-byte l = (l.weight < 65521) × (l.weight ≡ mixed l.fn.start (take l.byte-index l.bytes))
