use Rattle.std.proofs.Common.{[], ◌∷◌}
use Rattle.fol_text.specs.Printed.{printed}
use Rattle.fol_text.proofs.PrintLaws.{separated_more, later}
use Rattle.boole_table.proofs.print.add_sentences.Goals as goal

pub loop-sentence-preserved : goal.loop-sentence-preserved
loop-sentence-preserved c = record {
  text = separated_more printed (32 ∷ 59 ∷ 32 ∷ []) c.args.sentences.now c.loop-sentence.sentence-index c.sentence-item.result c.loop-sentence.is_first c.args.text.now c.loop-sentence.text c.separate.new.text c.add_sentence.new.text
      c.loop-sentence-test.true c.sentence-item.is c.loop-sentence.invariant.text c.loop-sentence.invariant.first c.in_ok-separate.ensures c.in_ok-add_sentence.ensures;
  first = later c.loop-sentence.sentence-index;
}
