use Rattle.std.proofs.Common.{◌≡◌, ◌++◌, take, drop, [], map}
use Rattle.desk_keeper.specs.declared.rows.Row.TheVariants.{User}
use Rattle.desk_machine.specs.Enrolling.{new_behind}
use Rattle.desk_machine.proofs.enrolling.new_rows.Given as goal

abbrev pub invariant-loop-place : goal.invariant-loop-place
invariant-loop-place l = l.rows ++ map User (new_behind l.kept (take l.place l.users) (drop l.place l.users)) ≡ map User (new_behind l.kept [] l.users)
