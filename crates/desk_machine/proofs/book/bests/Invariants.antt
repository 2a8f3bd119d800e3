use Rattle.std.proofs.Common.{◌≡◌, ◌++◌, drop, map}
use Rattle.desk_machine.specs.Books.{best_of}
use Rattle.desk_machine.proofs.book.bests.Given as goal

abbrev pub invariant-loop-name : goal.invariant-loop-name
invariant-loop-name l = l.bests ++ map (best_of l.tables l.student) (drop l.name-index l.names) ≡ map (best_of l.tables l.student) l.names
