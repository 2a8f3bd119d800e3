use Rattle.std.proofs.Common.{sym, ◌∙◌}
use Rattle.world_text.specs.inside.Squares.{as_said}
use Rattle.world_text.proofs.Putting.{put_down}
use Rattle.world_text.proofs.squares.put_said.Goals as goal

pub returns-clause-put : goal.returns-clause-put
returns-clause-put c = λ seen h.
    put_down seen c.args.board.now c.put_down.new.board (as_said c.args.said.now) h
    (sym c.is_place.ensures.value ∙ c.if-not-is_place.false)
    (sym c.is_place-2.ensures.value ∙ c.if-not-is_place-2.false)
    (sym (c.is_taken.ensures.value seen h) ∙ c.if-is_taken.false)
    (sym (c.repeats_name_on.ensures.value seen h) ∙ c.if-repeats_name_on.false)
    c.put_down.ensures.squares c.put_down.ensures.names
