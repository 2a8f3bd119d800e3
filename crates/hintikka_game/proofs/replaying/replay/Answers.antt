-- What the last turn says of the value.
use Rattle.std.proofs.Common.{subst}
use Rattle.hintikka_game.specs.Games.{opened}
use Rattle.hintikka_game.specs.Replays.{EndsAs}
use Rattle.hintikka_game.proofs.Repeating.{final_loses, final_never_won}
use Rattle.hintikka_game.proofs.replaying.replay.Goals as goal

pub returns-clause-never_won : goal.returns-clause-never_won
returns-clause-never_won c =
    final_never_won c.args.w.now (opened c.args.s.now c.args.commitment) c.args.choices.now c.in_ok-game.game c.end_at-end.result c.in_ok-game.ensures.settled
    (subst (λ t. EndsAs t c.end_at-end.result) c.next.ensures.value c.end_at-end.ensures.end)

pub returns-clause-losing : goal.returns-clause-losing
returns-clause-losing c =
    final_loses c.args.w.now (opened c.args.s.now c.args.commitment) c.args.choices.now c.in_ok-game.game c.end_at-end.result c.first_losing-first_losing.result c.in_ok-game.ensures.settled
    (subst (λ t. EndsAs t c.end_at-end.result) c.next.ensures.value c.end_at-end.ensures.end) c.first_losing-first_losing.ensures.value
