use Rattle.std.proofs.Common.{eqb, length}
use Rattle.std.specs.List.{slice_split}
use Rattle.fitch_file.specs.Cites.{IsPart}
use Rattle.fitch_file.proofs.Resuming.{Resumes}
use Rattle.fitch_file.proofs.cites.read_cites.Given as goal

abbrev pub invariant-loop-cite : goal.invariant-loop-cite
invariant-loop-cite l = Resumes IsPart (slice_split (λ b. eqb b 44) l.text) (slice_split (λ b. eqb b 44) l.rest) l.cites

abbrev pub decreases-loop-cite : goal.decreases-loop-cite
decreases-loop-cite l = length l.rest
