use Rattle.std.proofs.Common.{◌≡◌}
use Rattle.hintikka_game.specs.Games.{WentOn, standing, turn_in}
use Rattle.hintikka_game.specs.Turns.{is_settled}
use Rattle.hintikka_game.specs.Weight.{weight}
use Rattle.hintikka_game.proofs.replaying.settle.Given as goal

abbrev pub invariant-loop-waits : goal.invariant-loop-waits
invariant-loop-waits l = WentOn l.fn.game l.game × (l.waits ≡ is_settled (turn_in l.game))

abbrev pub decreases-loop-waits : goal.decreases-loop-waits
decreases-loop-waits l = weight (standing l.game).sentence
