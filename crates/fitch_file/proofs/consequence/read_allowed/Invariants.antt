use Rattle.std.proofs.Common.{length}
use Rattle.fitch_file.proofs.Allowing.{Allowing}
use Rattle.fitch_file.proofs.consequence.read_allowed.Given as goal

abbrev pub invariant-loop-word : goal.invariant-loop-word
invariant-loop-word l = Allowing l.text l.allowed l.rest

abbrev pub decreases-loop-word : goal.decreases-loop-word
decreases-loop-word l = length l.rest
