use Rattle.std.proofs.Common.{◌-◌, length}
use Rattle.tutor_app.proofs.Transferring.{WrittenSoFar}
use Rattle.tutor_app.proofs.transfer.write_whole.Given as goal

abbrev pub invariant-loop-at : goal.invariant-loop-at
invariant-loop-at g l =
    let w = g.W.Sink in
    WrittenSoFar (w.same_sink l.fn.output l.output) (w.taken l.fn.output) (w.taken l.output) (w.faults l.fn.output) (w.faults l.output) l.text l.at

abbrev pub decreases-loop-at : goal.decreases-loop-at
decreases-loop-at g l = length l.text - l.at
