use Rattle.deriv_laws.proofs.Lists.{on_ok}
use Rattle.tableau_laws.specs.Terms.{parts_of_term}
use Rattle.tableau_branch.proofs.Gathering.{two_gathered}
use Rattle.tableau_branch.proofs.terms.gather_pair.Goals as goal

pub returns : goal.returns
returns c = record {
  ok = on_ok c.gather_term-2.result _ _
      (λ e. two_gathered c.args.terms.now.items c.gather_term.new.terms.items c.gather_term-2.new.terms.items (parts_of_term c.args.a.now) (parts_of_term c.args.b.now) c.in_ok-gather_term.ensures.ok e)
      c.gather_term-2.ensures.ok;
}
