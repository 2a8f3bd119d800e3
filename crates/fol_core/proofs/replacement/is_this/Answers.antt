use Rattle.fol_core.proofs.TermEquality.{same_as}
use Rattle.fol_core.proofs.replacement.is_this.Goals as goal

pub returns : goal.returns
returns c = record { value = same_as _ c.args.a.now c.args.n.now c.same_term.ensures.value.0 c.same_term.ensures.value.1 }
