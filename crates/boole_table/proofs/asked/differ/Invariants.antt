use Rattle.std.proofs.Common.{take}
use Rattle.boole_table.specs.Asked.{Differ}
use Rattle.boole_table.proofs.asked.differ.Given as goal

abbrev pub invariant-loop-place : goal.invariant-loop-place
invariant-loop-place l = Differ (take l.place l.sentences)
