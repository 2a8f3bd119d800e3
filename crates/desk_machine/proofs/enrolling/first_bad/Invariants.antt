use Rattle.std.proofs.Common.{◌≡◌, take, drop, []}
use Rattle.desk_machine.specs.Enrolling.{bad_behind}
use Rattle.desk_machine.proofs.enrolling.first_bad.Given as goal

abbrev pub invariant-loop-place : goal.invariant-loop-place
invariant-loop-place l = bad_behind l.kept (take l.place l.users) (drop l.place l.users) ≡ bad_behind l.kept [] l.users
