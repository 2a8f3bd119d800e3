use Rattle.std.proofs.Common.{◌≡◌, take, length}
use Rattle.boole_table.proofs.asked.are_same.Given as goal

abbrev pub invariant-loop-place : goal.invariant-loop-place
invariant-loop-place l = record { long : length l.a ≡ length l.b; begun : take l.place l.a ≡ take l.place l.b }
