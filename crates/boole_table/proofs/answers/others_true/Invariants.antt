use Rattle.std.proofs.Common.{◌≡◌, ◌+◌, drop}
use Rattle.boole_table.specs.Questions.{are_true_beside}
use Rattle.boole_table.proofs.answers.others_true.Given as goal

abbrev pub invariant-loop-place : goal.invariant-loop-place
invariant-loop-place l = are_true_beside l.number (l.place + 1) (drop l.place l.values) ≡ are_true_beside l.number 1 l.values
