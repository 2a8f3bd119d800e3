use Rattle.std.proofs.Common.{subst}
use Rattle.hintikka_game.specs.Games.{opened}
use Rattle.hintikka_game.specs.Replays.{IsReplay, HasReplayCause}
use Rattle.tutor_app.proofs.Replaying.{played_is, refused_is}
use Rattle.tutor_app.proofs.play.replayed.Goals as goal

pub returns-in-Ok : goal.returns-in-Ok
returns-in-Ok c =
    let play = c.args.play.now in let played = c.in-Ok.played in
    let made = subst (λ choices. IsReplay play.world (opened play.sentence play.commitment) choices played) c.as_slice-choices.ensures.value c.in-Ok.ensures.play in
    record { reply = played_is play played c.told.result c.in-Ok.ensures.truth made c.told.ensures.reply }

pub returns-in-Err : goal.returns-in-Err
returns-in-Err c =
    let play = c.args.play.now in let fault = c.in-Err.fault in
    let cause = subst (λ choices. HasReplayCause play.world (opened play.sentence play.commitment) choices fault) c.as_slice-choices.ensures.value c.in-Err.ensures.cause in
    record { reply = refused_is play fault c.refused.result c.in-Err.ensures.truth cause c.refused.ensures.reply }
