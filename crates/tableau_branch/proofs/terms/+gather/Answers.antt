use Rattle.std.proofs.Common.{◌∙◌, ◌<◌, ap, length, arith}
use Rattle.deriv_laws.proofs.Lists.{on_ok}
use Rattle.tableau_laws.specs.Branch.{all_terms_in}
use Rattle.tableau_branch.specs.inside.Gathered.{gathered}
use Rattle.tableau_branch.proofs.Gathering.{two_gathered, next_gathered, terms_of_if, terms_of_iff}
use Rattle.tableau_branch.proofs.terms.+gather.Goals as goal

pub gather_parts-loop-part-preserved : goal.gather_parts-loop-part-preserved
gather_parts-loop-part-preserved t c =
    let h : c.loop-part.part-index < length c.args.parts.now = omega arith in
    next_gathered all_terms_in c.args.parts.now c.loop-part.part-index c.part-item.result c.args.terms.now.items c.loop-part.terms.items c.gather.new.terms.items h c.part-item.is c.loop-part.invariant c.in_ok-gather.ensures.ok

pub gather-returns-in_ok-gather-in-If : goal.gather-returns-in_ok-gather-in-If
gather-returns-in_ok-gather-in-If t c = record {
  ok = on_ok c.gather-in-If.result _ _
      (λ e. two_gathered c.args.terms.now.items c.gather.new.terms.items c.gather-in-If.new.terms.items (all_terms_in c.get.result.now) (all_terms_in c.get-in-If.result.now) c.in_ok-gather-in-If.ensures.ok e
      ∙ ap (gathered c.args.terms.now.items) (terms_of_if c.args.s.now c.in-If.p c.in-If.q c.get.result.now c.get-in-If.result.now c.in-If.is c.get.ensures c.get-in-If.ensures))
      c.gather-in-If.ensures.ok;
}

pub gather-returns-in_ok-gather-in-Iff : goal.gather-returns-in_ok-gather-in-Iff
gather-returns-in_ok-gather-in-Iff t c = record {
  ok = on_ok c.gather-in-Iff-2.result _ _
      (λ e. two_gathered c.args.terms.now.items c.gather-in-Iff.new.terms.items c.gather-in-Iff-2.new.terms.items (all_terms_in c.get-in-Iff.result.now) (all_terms_in c.get-in-Iff-2.result.now) c.in_ok-gather-in-Iff.ensures.ok e
      ∙ ap (gathered c.args.terms.now.items) (terms_of_iff c.args.s.now c.in-Iff.p c.in-Iff.q c.get-in-Iff.result.now c.get-in-Iff-2.result.now c.in-Iff.is c.get-in-Iff.ensures c.get-in-Iff-2.ensures))
      c.gather-in-Iff-2.ensures.ok;
}
