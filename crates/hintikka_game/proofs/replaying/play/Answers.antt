-- One more choice was made, and then the moves that need none.
use Rattle.hintikka_game.proofs.Repeating.{settled_next}
use Rattle.hintikka_game.proofs.replaying.play.Goals as goal

pub loop-choice-preserved : goal.loop-choice-preserved
loop-choice-preserved c =
    settled_next _ _ c.args.choices.now c.loop-choice.choice-index c.loop-choice.game _ c.loop-choice-test.true c.loop-choice.invariant
    c.in_ok-play_on.ensures.went_on c.in_ok-play_on.ensures.settled
