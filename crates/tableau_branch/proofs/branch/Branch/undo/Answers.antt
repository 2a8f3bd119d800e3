use Rattle.std.proofs.Common.{◌≤◌, ◌+◌, false, length, get_or, ap, refl, arith}
use Rattle.tableau_branch.specs.declared.branch.Mark.{Mark}
use Rattle.tableau_branch.proofs.Marking.{kept_cut}
use Rattle.tableau_branch.proofs.branch.Branch.undo.Goals as goal

pub invariant_of-self : goal.invariant_of-self
invariant_of-self c =
    let d : Mark = record { terms = 0; closed = false } in
    let l : c.args.mark ≤ length c.self.inside.indexed = omega (arith, c.requires.there, ap length c.self.view_is) in
    kept_cut c.self.inside.indexed c.undo.new.self c.self.inside.terms.items c.truncate.new.self.items c.self.inside.marks.items c.as_slice-marks.result.now c.truncate-2.new.self.items c.args.mark
    ((get_or c.as_slice-marks.result.now c.args.mark d).terms) (c.args.mark + 1) d c.self.invariant c.as_slice-marks.ensures.value l refl refl c.truncate.ensures.items c.truncate-2.ensures.items c.undo.ensures.value
