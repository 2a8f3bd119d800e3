use Rattle.std.proofs.Common.{◌≡◌, length}
use Rattle.worlds.specs.Geometry.{bears}
use Rattle.world_text.specs.WorldText.{repeats_name}
use Rattle.world_text.proofs.squares.repeats.Given as goal

abbrev pub invariant-loop-rest : goal.invariant-loop-rest
invariant-loop-rest l = repeats_name (bears l.taken) l.word ≡ repeats_name (bears l.taken) l.rest

abbrev pub decreases-loop-rest : goal.decreases-loop-rest
decreases-loop-rest l = length l.rest
