use Rattle.std.proofs.Common.{◌-◌, length}
use Rattle.tutor_app.proofs.Transferring.{ReadSoFar}
use Rattle.tutor_app.proofs.transfer.read_whole.Given as goal

abbrev pub invariant-loop-room : goal.invariant-loop-room
invariant-loop-room g l =
    let s = g.S.Source in
    ReadSoFar (s.same_source l.fn.input l.input) (s.left l.fn.input) (s.left l.input) (s.faults l.fn.input) (s.faults l.input) l.text

abbrev pub decreases-loop-room : goal.decreases-loop-room
decreases-loop-room g l = 262145 - length l.text
