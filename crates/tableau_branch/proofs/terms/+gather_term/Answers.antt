use Rattle.std.proofs.Common.{◌<◌, length, arith}
use Rattle.deriv_laws.proofs.Lists.{on_ok}
use Rattle.tableau_laws.specs.Terms.{parts_of_term}
use Rattle.tableau_branch.proofs.Gathering.{gathered_app, next_gathered}
use Rattle.tableau_branch.proofs.terms.+gather_term.Goals as goal

pub gather_term-returns-in-App : goal.gather_term-returns-in-App
gather_term-returns-in-App t c = record {
  ok = on_ok c.gather_terms.result _ _
      (λ e. gathered_app c.args.terms.now.items c.add_term.new.terms.items c.gather_terms.new.terms.items c.args.term.now c.in-App.field-0 c.in-App.args c.as_slice.result.now c.in-App.is c.as_slice.ensures.value c.in_ok-add_term.ensures.ok e)
      c.gather_terms.ensures.ok;
}

pub gather_terms-loop-arg-preserved : goal.gather_terms-loop-arg-preserved
gather_terms-loop-arg-preserved t c =
    let h : c.loop-arg.arg-index < length c.args.args.now = omega arith in
    next_gathered parts_of_term c.args.args.now c.loop-arg.arg-index c.arg-item.result c.args.terms.now.items c.loop-arg.terms.items c.gather_term.new.terms.items h c.arg-item.is c.loop-arg.invariant c.in_ok-gather_term.ensures.ok
