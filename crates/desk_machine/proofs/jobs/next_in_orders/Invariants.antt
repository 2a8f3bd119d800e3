use Rattle.std.proofs.Common.{◌≡◌, drop}
use Rattle.std.specs.Prelude.{flat_map}
use Rattle.std.specs.List.{find}
use Rattle.desk_machine.specs.Jobs.{is_ready, ordered_jobs}
use Rattle.desk_machine.proofs.jobs.next_in_orders.Given as goal

abbrev pub invariant-loop-order : goal.invariant-loop-order
invariant-loop-order l = find (is_ready l.grades l.held) (flat_map (λ order. ordered_jobs order 1 l.rows) (drop l.order-index l.orders))
    ≡ find (is_ready l.grades l.held) (flat_map (λ order. ordered_jobs order 1 l.rows) l.orders)
