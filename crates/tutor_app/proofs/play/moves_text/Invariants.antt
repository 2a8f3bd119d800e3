use Rattle.std.proofs.Common.{◌≡◌, take}
use Rattle.tutor_app.specs.Play.{moves_text}
use Rattle.tutor_app.proofs.play.moves_text.Given as goal

abbrev pub invariant-loop-made : goal.invariant-loop-made
invariant-loop-made l = l.text ≡ moves_text (take l.made-index l.moves)
