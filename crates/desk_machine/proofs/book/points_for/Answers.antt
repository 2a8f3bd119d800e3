use Rattle.std.proofs.Common.{arith}
use Rattle.desk_machine.specs.Books.{points_of}
use Rattle.desk_machine.proofs.Summing.{all_added}
use Rattle.desk_machine.proofs.book.points_for.Goals as goal

pub returns : goal.returns
returns c = record {
  value = all_added (points_of c.args.rows.now) c.args.names.now c.loop-name.name-index c.loop-name.points _
      c.loop-name.invariant.0 (omega (arith, c.loop-name-test.false)) (omega (arith, c.loop-name.invariant.1));
}
