use Rattle.std.proofs.Common.{◌≡◌, ◌+◌, drop}
use Rattle.std.specs.List.{find}
use Rattle.desk_machine.specs.Jobs.{is_ready, own_jobs}
use Rattle.desk_machine.proofs.jobs.next_own.Given as goal

abbrev pub invariant-loop-place : goal.invariant-loop-place
invariant-loop-place l = find (is_ready l.grades l.held) (own_jobs (l.place + 1) (drop l.place l.rows)) ≡ find (is_ready l.grades l.held) (own_jobs 1 l.rows)
