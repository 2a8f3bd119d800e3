use Rattle.std.proofs.Common.{length}
use Rattle.world_text.proofs.LinesRead.{Reads}
use Rattle.world_text.proofs.reading.read_blocks.Given as goal

abbrev pub invariant-loop-line : goal.invariant-loop-line
invariant-loop-line l = Reads l.header l.text l.place l.rest l.squares

abbrev pub decreases-loop-line : goal.decreases-loop-line
decreases-loop-line l = length l.rest
