use Rattle.std.proofs.Common.{arith}
use Rattle.desk_machine.specs.Books.{credit_or_none}
use Rattle.desk_machine.proofs.Summing.{all_added}
use Rattle.desk_machine.proofs.book.earned.Goals as goal

pub returns : goal.returns
returns c = record {
  value = all_added credit_or_none c.args.credits.now c.loop-credit.credit-index c.loop-credit.earned _
      c.loop-credit.invariant.0 (omega (arith, c.loop-credit-test.false)) (omega (arith, c.loop-credit.invariant.1));
}
