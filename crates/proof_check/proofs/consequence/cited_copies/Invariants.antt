use Rattle.std.proofs.Common.{◌≡◌, take}
use Rattle.nested_proofs.specs.ReadOff.{sentences_read}
use Rattle.proof_check.proofs.consequence.cited_copies.Given as goal

abbrev pub invariant-loop-cite : goal.invariant-loop-cite
invariant-loop-cite l = l.copies ≡ sentences_read l.lines (take l.cite-index l.cites)
