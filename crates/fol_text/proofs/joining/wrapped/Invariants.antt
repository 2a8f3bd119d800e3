use Rattle.std.proofs.Common.{◌≡◌, length}
use Rattle.fol_text.specs.Machine.{wrapped}
use Rattle.fol_text.proofs.joining.wrapped.Given as goal

abbrev pub invariant-loop-prefix : goal.invariant-loop-prefix
invariant-loop-prefix l = wrapped l.prefixes l.whole ≡ wrapped l.initial.prefixes l.initial.whole

abbrev pub decreases-loop-prefix : goal.decreases-loop-prefix
decreases-loop-prefix l = length l.prefixes
