use Rattle.fol_core.proofs.TermEquality.{same_as}
use Rattle.tableau_branch.proofs.terms.is_term.Goals as goal

pub returns : goal.returns
returns c = record { value = same_as c.same_term.result c.args.a.now c.args.b.now c.same_term.ensures.value.0 c.same_term.ensures.value.1 }
