use Rattle.std.proofs.Common.{◌+◌, arith}
use Rattle.fitch_file.proofs.PrintingSteps.{lines_step}
use Rattle.fitch_file.proofs.print.add_lines.Goals as goal

pub loop-line-preserved : goal.loop-line-preserved
loop-line-preserved c = record {
  number = omega (arith, c.loop-line.invariant.number);
  text = lines_step c.args.text.now c.loop-line.text c.add_line.new.text c.extend.new.self c.args.lines.now c.loop-line.line-index (c.loop-line.number + 1) c.line-item.result
      c.loop-line-test.true c.line-item.is (omega (arith, c.loop-line.invariant.number)) c.loop-line.invariant.text c.in_ok-add_line.ensures c.in_ok-extend.ensures.ok;
}
