use Rattle.std.proofs.Common.{◌≡◌, ◌+◌, drop}
use Rattle.desk_machine.specs.Users.{known_from}
use Rattle.desk_machine.proofs.users.user_of.Given as goal

abbrev pub invariant-loop-place : goal.invariant-loop-place
invariant-loop-place l = known_from (l.place + 1) (drop l.place l.users) l.token ≡ known_from 1 l.users l.token
