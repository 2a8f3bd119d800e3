use Rattle.std.proofs.Common.{ℕ, List, [], ◌∷◌, ◌++◌, ap, ◌∙◌}
use Rattle.fol_text.specs.Printed.{term_text}
use Rattle.fol_text.proofs.PrintLaws.{separated_more, later}
use Rattle.fol_text.proofs.print.+terms.Goals as goal

pub add_terms-loop-term-preserved : goal.add_terms-loop-term-preserved
add_terms-loop-term-preserved t c = record {
  text = separated_more term_text (44 ∷ []) c.args.terms.now c.loop-term.term-index c.term-item.result c.loop-term.is_first c.args.text.now c.loop-term.text c.separate.new.text c.add_term.new.text
      c.loop-term-test.true c.term-item.is c.loop-term.invariant.text c.loop-term.invariant.first c.in_ok-separate.ensures.value c.in_ok-add_term.ensures.value;
  first = later c.loop-term.term-index;
}
