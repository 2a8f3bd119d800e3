use Rattle.std.proofs.Common.{◌≡◌, ◌++◌, take}
use Rattle.fitch_file.specs.PrintedProof.{printed_lines}
use Rattle.fitch_file.proofs.print.add_lines.Given as goal

abbrev pub invariant-loop-line : goal.invariant-loop-line
invariant-loop-line l = record {
  number : l.number ≡ l.line-index;
  text : l.text ≡ l.fn.text ++ printed_lines 1 (take l.line-index l.lines);
}
