use Rattle.std.proofs.Common.{[], length, sym, ◌∙◌, ap}
use Rattle.tableau_laws.specs.Choices.{is_closed}
use Rattle.tableau_branch.specs.declared.branch.Mark.{Mark}
use Rattle.tableau_branch.proofs.Marking.{whole_mark}
use Rattle.tableau_branch.proofs.branch.Branch.is_closed.Goals as goal

pub returns : goal.returns
returns c = record {
  value = ap (λ (m : Mark). m.closed) (whole_mark c.self.inside.indexed c.self.inside.terms.items c.self.inside.marks.items c.as_slice-marks.result.now c.mark-at.result _ c.self.invariant c.as_slice-marks.ensures.value (c.mark-at.ensures.value ∙ ap length (sym c.self.view_is)))
      ∙ ap (is_closed []) c.self.view_is;
}
