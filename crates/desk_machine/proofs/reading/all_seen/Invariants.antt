use Rattle.std.proofs.Common.{◌≡◌, ◌+◌, ◌++◌, drop}
use Rattle.desk_machine.specs.Reading.{seen_from}
use Rattle.desk_machine.proofs.reading.all_seen.Given as goal

abbrev pub invariant-loop-place : goal.invariant-loop-place
invariant-loop-place l = l.found ++ seen_from l.tables l.student (l.place + 1) (drop l.place l.rows) ≡ seen_from l.tables l.student 1 l.rows
