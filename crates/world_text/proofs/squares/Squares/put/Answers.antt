use Rattle.std.proofs.Common.{sym}
use Rattle.world_text.specs.inside.Squares.{as_said}
use Rattle.world_text.proofs.Putting.{put_line, both_ok}
use Rattle.world_text.proofs.squares.Squares.put.Goals as goal

pub returns-in-Some-clause-put : goal.returns-in-Some-clause-put
returns-in-Some-clause-put c =
    both_ok c.put_said.result (λ f p seen h. put_line seen c.args.line.now (as_said c.in-Some.said) c.put_said.new.board (sym c.in-Some.ensures.value) (f seen h) (p seen h))
    c.put_said.ensures.faultless c.put_said.ensures.put
