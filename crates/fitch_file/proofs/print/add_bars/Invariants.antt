use Rattle.std.proofs.Common.{◌≡◌, ◌++◌}
use Rattle.fitch_file.specs.PrintedProof.{bars_text}
use Rattle.fitch_file.proofs.print.add_bars.Given as goal

abbrev pub invariant-loop-bar : goal.invariant-loop-bar
invariant-loop-bar l = l.text ≡ l.fn.text ++ bars_text l._bar
