use Rattle.std.proofs.Common.{◌≡◌, take, drop}
use Rattle.desk_legal.specs.Legal.{user_may}
use Rattle.desk_legal.specs.Prefixes.{first_bad, first_bad_behind}
use Rattle.desk_legal.proofs.users.first_bad_user.Given as goal

abbrev pub invariant-loop-place : goal.invariant-loop-place
invariant-loop-place l = first_bad_behind user_may (take l.place l.users) (drop l.place l.users) ≡ first_bad user_may l.users
