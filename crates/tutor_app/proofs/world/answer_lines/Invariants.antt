use Rattle.std.proofs.Common.{◌≡◌, take}
use Rattle.tutor_app.specs.World.{answer_lines}
use Rattle.tutor_app.proofs.world.answer_lines.Given as goal

abbrev pub invariant-loop-sentence : goal.invariant-loop-sentence
invariant-loop-sentence l = l.text ≡ answer_lines l.world (take l.sentence-index l.sentences)
