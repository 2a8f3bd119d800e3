use Rattle.std.proofs.Common.{◌≡◌, ◌++◌, ◌∷◌, [], length, sym, ◌∙◌, ap, arith}
use Rattle.tableau_laws.specs.Choices.{is_closed}
use Rattle.tableau_branch.proofs.Marking.{kept_more}
use Rattle.tableau_branch.proofs.branch.Branch.add.Goals as goal

pub invariant_of-result : goal.invariant_of-result
invariant_of-result c =
    let n : c.len.result ≡ length c.gather.new.terms.items = omega (arith, c.len.ensures) in
    kept_more c.self.inside.indexed c.in_ok-push-2.field-0 c.self.inside.terms.items c.gather.new.terms.items c.self.inside.marks.items c.push.new.self.items c.args.item c.len.result c.is_closed_with-closed.result
    c.self.invariant c.in_ok-gather.ensures.ok n (c.is_closed_with-closed.ensures.value ∙ ap (λ z. is_closed [] (z ++ c.args.item ∷ [])) (sym c.self.view_is)) c.in_ok-push.ensures.items
    c.in_ok-push-2.ensures.value
