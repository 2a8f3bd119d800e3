use Rattle.std.proofs.Common.{take}
use Rattle.hintikka_game.specs.Games.{IsSettled, opened}
use Rattle.hintikka_game.proofs.replaying.play.Given as goal

abbrev pub invariant-loop-choice : goal.invariant-loop-choice
invariant-loop-choice l = IsSettled l.w (opened l.s l.commitment) (take l.choice-index l.choices) l.game
