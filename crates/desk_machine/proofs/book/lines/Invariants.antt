use Rattle.std.proofs.Common.{◌≡◌, ◌+◌, ◌++◌, drop}
use Rattle.desk_machine.specs.Books.{lines_from}
use Rattle.desk_machine.proofs.book.lines.Given as goal

abbrev pub invariant-loop-place : goal.invariant-loop-place
invariant-loop-place l = l.lines ++ lines_from l.tables l.names l.points (l.place + 1) (drop l.place l.users) ≡ lines_from l.tables l.names l.points 1 l.users
