use Rattle.fol_text.specs.Occurrences.{fitting}
use Rattle.fol_text.proofs.Steps.{marks_more}
use Rattle.fol_text.proofs.marks.+fitting.Goals as goal

pub add_all_fitting-loop-part-preserved : goal.add_all_fitting-loop-part-preserved
add_all_fitting-loop-part-preserved t c =
    marks_more fitting c.args.parts.now c.loop-part.part-index c.part-item.result c.args.marks.now c.loop-part.marks c.add_fitting.new.marks
    c.loop-part-test.true c.part-item.is c.loop-part.invariant c.in_ok-add_fitting.ensures.value
