use Rattle.std.proofs.Common.{◌≡◌, drop}
use Rattle.std.specs.Prelude.{None, filter, fold, option_copied}
use Rattle.desk_machine.specs.Grading.{grades_ticket, later_of}
use Rattle.desk_machine.proofs.grades.current.Given as goal

abbrev pub invariant-loop-row : goal.invariant-loop-row
invariant-loop-row l = fold later_of (option_copied l.best) (filter (grades_ticket l.ticket) (drop l.row-index l.grades)) ≡ fold later_of None (filter (grades_ticket l.ticket) l.grades)
