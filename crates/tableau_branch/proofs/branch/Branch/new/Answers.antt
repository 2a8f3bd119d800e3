use Rattle.tableau_branch.proofs.Marking.{kept_begun}
use Rattle.tableau_branch.proofs.branch.Branch.new.Goals as goal

pub invariant_of-result : goal.invariant_of-result
invariant_of-result c =
    kept_begun c.in_ok-new.field-0 c.new-2.result.items c.new-marks.result.items c.push.new.self.items c.in_ok-new.ensures.empty c.new-2.ensures.items c.new-marks.ensures.items c.in_ok-push.ensures.items
