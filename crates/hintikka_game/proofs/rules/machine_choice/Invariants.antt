use Rattle.std.proofs.Common.{◌≡◌, ◌+◌, drop}
use Rattle.hintikka_game.specs.Positions.{nexts}
use Rattle.hintikka_game.specs.Turns as turns
use Rattle.hintikka_game.proofs.rules.machine_choice.Given as goal

abbrev pub invariant-loop-before : goal.invariant-loop-before
invariant-loop-before l = turns.first_lost l.world (l.before + 1) (drop l.before (nexts l.world l.p)) ≡ turns.machine_choice l.world (nexts l.world l.p)
