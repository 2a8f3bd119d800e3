use Rattle.std.proofs.Common.{List, ap, ◌∙◌}
use Rattle.fol_text.specs.declared.state.Group.{Group}
use Rattle.fol_text.specs.Machine.{ended_in}
use Rattle.fol_text.proofs.Inside.{inside_ends}
use Rattle.fol_text.proofs.state.State.ended.Goals as goal

pub returns-in-Some : goal.returns-in-Some
returns-in-Some c = record { value = ap (λ (o : List Group). ended_in c.args.self.mode c.args.self.here o) c.in-Some.ensures.value ∙ inside_ends c.args.self.mode c.args.self.here c.in-Some.field-0 _ }
