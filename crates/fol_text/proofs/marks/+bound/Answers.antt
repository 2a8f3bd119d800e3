use Rattle.std.proofs.Common.{◌≡◌, ◌++◌, List, Bool, subst}
use Rattle.std.specs.Prelude.{OnOk}
use Rattle.fol_core.specs.declared.sent.Sent.{Sent}
use Rattle.fol_text.specs.Bound.{words}
use Rattle.fol_text.specs.Occurrences.{boundness}
use Rattle.fol_text.proofs.MarkLaws.{bound_chain}
use Rattle.fol_text.proofs.Steps.{marks_more}
use Rattle.fol_text.proofs.marks.+bound.Goals as goal

pub add_all_bound-loop-part-preserved : goal.add_all_bound-loop-part-preserved
add_all_bound-loop-part-preserved t c =
    marks_more (λ (s : Sent). boundness s (words c.args.bound.now)) c.args.parts.now c.loop-part.part-index c.part-item.result c.args.marks.now c.loop-part.marks c.add_bound.new.marks
    c.loop-part-test.true c.part-item.is c.loop-part.invariant c.in_ok-add_bound.ensures.value

pub add_bound-returns-in-And : goal.add_bound-returns-in-And
add_bound-returns-in-And t c = record {
  value = subst (λ (m : List Bool). OnOk c.add_all_bound.result (c.add_all_bound.new.marks ≡ c.args.marks.now ++ m))
      (bound_chain c.args.s.now c.in-And.parts c.as_slice-in-And.result.now (words c.args.bound.now) c.in-And.is c.as_slice-in-And.ensures.value)
      c.add_all_bound.ensures.value;
}
