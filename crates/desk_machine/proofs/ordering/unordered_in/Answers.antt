use Rattle.std.proofs.Common.{arith}
use Rattle.desk_machine.proofs.Summing.{all_counted}
use Rattle.desk_machine.proofs.ordering.unordered_in.Goals as goal

pub returns : goal.returns
returns c = record {
  value = all_counted c.args.orders.now c.args.name.now c.args.version c.args.rows.now c.loop-place.place c.loop-place.count _
      c.loop-place.invariant.0 (omega (arith, c.loop-place-test.false)) (omega (arith, c.loop-place.invariant.1));
}
