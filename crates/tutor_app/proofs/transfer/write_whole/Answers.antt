use Rattle.std.proofs.Common.{arith, ◌≤◌, ◌-◌, ℕ, length, length-take, length-drop}
use Rattle.tutor_app.proofs.Transferring.{write_more}
use Rattle.tutor_app.proofs.transfer.write_whole.Goals as goal

pub loop-at-preserved : goal.loop-at-preserved
loop-at-preserved g c =
    let wrote = c.in_ok-at.ensures in
    let so_far = c.loop-at.invariant in
    let text = c.args.text.now in
    let n = c.in_ok-at.field-0 in
    let fits : n ≤ length text - c.loop-at.at = omega (arith, wrote.bound, length-take {A = ℕ}, length-drop {A = ℕ}) in
    record {
      place = g.met.W.Sink.sink_trans _ _ _ so_far.place wrote.place;
      appended = write_more _ _ _ text c.loop-at.at n so_far.appended wrote.bytes;
      later = omega (arith, so_far.later, wrote.cause.later);
      within = omega (arith, so_far.within, fits);
    }
