use Rattle.std.proofs.Common.{sym, ◌∙◌, arith}
use Rattle.fol_core.specs.declared.sent.Sent.{Sent}
use Rattle.fol_core.specs.Naming.{term_where}
use Rattle.fol_core.proofs.Naming.{terms_end}
use Rattle.fol_core.proofs.instance.+naming.Goals as goal

pub instance_term_in-returns : goal.instance_term_in-returns
instance_term_in-returns t c = record { value = sym (c.loop-i.invariant ∙ terms_end (λ (q s : Sent). term_where c.args.x.now q c.args.free s) c.args.qs.now c.args.ss.now c.loop-i.i (omega arith)) }
