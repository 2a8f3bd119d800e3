use Rattle.std.proofs.Common.{◌≡◌, ◌+◌, drop}
use Rattle.std.specs.List.{find}
use Rattle.desk_machine.specs.Jobs.{is_ready, ordered_jobs}
use Rattle.desk_machine.proofs.jobs.next_in_order.Given as goal

abbrev pub invariant-loop-place : goal.invariant-loop-place
invariant-loop-place l = find (is_ready l.grades l.held) (ordered_jobs l.order (l.place + 1) (drop l.place l.rows)) ≡ find (is_ready l.grades l.held) (ordered_jobs l.order 1 l.rows)
