use Rattle.std.proofs.Common.{◌∙◌}
use Rattle.worlds.specs.Geometry.{bears}
use Rattle.world_text.specs.WorldText.{is_name_taken}
use Rattle.world_text.proofs.Putting.{repeats_same}
use Rattle.world_text.proofs.squares.repeats_name_on.Goals as goal

pub returns : goal.returns
returns c = record { value = λ seen h. c.repeats.ensures.value ∙ repeats_same (bears c.args.board.now.taken) (is_name_taken seen) c.args.word.now h.names }
