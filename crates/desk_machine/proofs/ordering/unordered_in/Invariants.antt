use Rattle.std.proofs.Common.{◌≡◌, ◌+◌, ◌-◌, ◌^◌, ◌≤◌, drop, length}
use Rattle.std.specs.Prelude.{min}
use Rattle.desk_machine.specs.Ordering.{unordered_from}
use Rattle.desk_machine.proofs.ordering.unordered_in.Given as goal

abbrev pub invariant-loop-place : goal.invariant-loop-place
invariant-loop-place l = (min (l.count + length (unordered_from l.orders l.name l.version (l.place + 1) (drop l.place l.rows))) (2 ^ 32 - 1)
    ≡ min (length (unordered_from l.orders l.name l.version 1 l.rows)) (2 ^ 32 - 1))
    × (l.count ≤ 4294967295)
