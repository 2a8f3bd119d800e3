use Rattle.std.proofs.Common.{◌≡◌, ◌+◌, drop}
use Rattle.desk_machine.specs.Reading.{one_from}
use Rattle.desk_machine.proofs.reading.one_seen.Given as goal

abbrev pub invariant-loop-place : goal.invariant-loop-place
invariant-loop-place l = one_from l.tables l.student l.number (l.place + 1) (drop l.place l.rows) ≡ one_from l.tables l.student l.number 1 l.rows
