use Rattle.std.proofs.Common.{◌≡◌, min, take, map}
use Rattle.fol_core.specs.Size.{depth, greatest}
use Rattle.fol_core.proofs.size.+depth.Given as goal

abbrev pub invariant-deepest-loop-part : goal.invariant-deepest-loop-part
invariant-deepest-loop-part l = l.most ≡ min (greatest (map depth (take l.part-index l.parts))) 4294967295
