use Rattle.std.proofs.Common.{◌≡◌, map, take}
use Rattle.std.specs.List.{fold}
use Rattle.taut_con.specs.inside.Digests.{mix, digest}
use Rattle.taut_con.proofs.digest.+digest.Given as goal

abbrev pub invariant-mix_all-loop-s : goal.invariant-mix_all-loop-s
invariant-mix_all-loop-s l = l.mixed ≡ fold mix l.start (map digest (take l.s-index l.sentences))
