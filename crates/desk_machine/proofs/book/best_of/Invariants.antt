use Rattle.std.proofs.Common.{◌≡◌, ◌+◌, drop}
use Rattle.std.specs.Prelude.{fold}
use Rattle.desk_machine.specs.Books.{best_of, credits_from, greater}
use Rattle.desk_machine.proofs.book.best_of.Given as goal

abbrev pub invariant-loop-place : goal.invariant-loop-place
invariant-loop-place l = fold greater l.best (credits_from l.tables l.student l.name (l.place + 1) (drop l.place l.rows)) ≡ best_of l.tables l.student l.name
