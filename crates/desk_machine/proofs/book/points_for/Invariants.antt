use Rattle.std.proofs.Common.{◌≡◌, ◌+◌, ◌-◌, ◌^◌, ◌≤◌, drop, map}
use Rattle.std.specs.Prelude.{min}
use Rattle.desk_machine.specs.Books.{points_for, points_of, total}
use Rattle.desk_machine.proofs.book.points_for.Given as goal

abbrev pub invariant-loop-name : goal.invariant-loop-name
invariant-loop-name l = (min (l.points + total (map (points_of l.rows) (drop l.name-index l.names))) (2 ^ 64 - 1) ≡ points_for l.rows l.names)
    × (l.points ≤ 18446744073709551615)
