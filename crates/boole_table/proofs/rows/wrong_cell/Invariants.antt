use Rattle.std.proofs.Common.{◌≡◌, ◌+◌, drop}
use Rattle.boole_table.specs.Verdict.{wrong_cells}
use Rattle.boole_table.proofs.rows.wrong_cell.Given as goal

abbrev pub invariant-loop-place : goal.invariant-loop-place
invariant-loop-place l = wrong_cells l.n (l.place + 1) (drop l.place l.given) (drop l.place l.right) ≡ wrong_cells l.n 1 l.given l.right
