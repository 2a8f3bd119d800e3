use Rattle.std.proofs.Common.{◌≡◌, ◌+◌, ◌-◌, ◌^◌, ◌≤◌, drop, map}
use Rattle.std.specs.Prelude.{min}
use Rattle.desk_machine.specs.Books.{bounded_total, credit_or_none, total}
use Rattle.desk_machine.proofs.book.earned.Given as goal

abbrev pub invariant-loop-credit : goal.invariant-loop-credit
invariant-loop-credit l = (min (l.earned + total (map credit_or_none (drop l.credit-index l.credits))) (2 ^ 64 - 1) ≡ bounded_total (map credit_or_none l.credits))
    × (l.earned ≤ 18446744073709551615)
