use Rattle.fitch_file.proofs.PrintingSteps.{bars_step}
use Rattle.fitch_file.proofs.print.add_bars.Goals as goal

pub loop-bar-preserved : goal.loop-bar-preserved
loop-bar-preserved c = bars_step c.args.text.now c.loop-bar.text c.extend.new.self c.loop-bar._bar c.loop-bar.invariant c.in_ok-extend.ensures.ok
