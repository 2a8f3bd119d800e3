use Rattle.std.proofs.Common.{◌≡◌, length}
use Rattle.world_text.specs.BlockLines.{are_letters}
use Rattle.world_text.proofs.line.are_letters.Given as goal

abbrev pub invariant-loop-rest : goal.invariant-loop-rest
invariant-loop-rest l = are_letters l.word ≡ are_letters l.rest

abbrev pub decreases-loop-rest : goal.decreases-loop-rest
decreases-loop-rest l = length l.rest
