use Rattle.std.proofs.Common.{length}
use Rattle.std.specs.Str.Lines.{lines}
use Rattle.fitch_file.proofs.Tasking.{Tasked}
use Rattle.fitch_file.proofs.task_text.read_declarations.Given as goal

abbrev pub invariant-loop-line : goal.invariant-loop-line
invariant-loop-line l = Tasked l.text l.header.place (lines l.header.rest.now) l.progress l.rest

abbrev pub decreases-loop-line : goal.decreases-loop-line
decreases-loop-line l = length l.rest
