use Rattle.fol_text.specs.Bound.{words}
use Rattle.fol_text.specs.Occurrences.{word_marks}
use Rattle.fol_text.proofs.Steps.{marks_more}
use Rattle.fol_text.proofs.marks.+words.Goals as goal

pub add_bound_terms-loop-term-preserved : goal.add_bound_terms-loop-term-preserved
add_bound_terms-loop-term-preserved t c =
    marks_more (word_marks (words c.args.bound.now)) c.args.terms.now c.loop-term.term-index c.term-item.result c.args.marks.now c.loop-term.marks c.add_words.new.marks
    c.loop-term-test.true c.term-item.is c.loop-term.invariant c.in_ok-add_words.ensures.value
