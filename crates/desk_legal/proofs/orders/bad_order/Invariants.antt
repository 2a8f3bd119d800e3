use Rattle.std.proofs.Common.{◌≡◌, take, drop}
use Rattle.desk_legal.specs.Legal.{order_may}
use Rattle.desk_legal.specs.Prefixes.{first_bad, first_bad_behind}
use Rattle.desk_legal.proofs.orders.bad_order.Given as goal

abbrev pub invariant-loop-place : goal.invariant-loop-place
invariant-loop-place l = first_bad_behind (λ before row. order_may l.tables row) (take l.place l.rows) (drop l.place l.rows) ≡ first_bad (λ before row. order_may l.tables row) l.rows
