use Rattle.std.proofs.lemmas.List.{get_or_default}
use Rattle.worlds.specs.Geometry.{bears}
use Rattle.world_text.proofs.Letters.{put_text, put_first}
use Rattle.world_text.proofs.print.add_letters.Goals as goal

pub loop-letter-preserved : goal.loop-letter-preserved
loop-letter-preserved c = record {
  text = put_text c.args.text.now c.loop-letter.text c.add_letter.new.text (bears c.args.names) c.args.letters.now c.loop-letter.letter-index _ c.loop-letter.is_first
      c.loop-letter-test.true (get_or_default c.args.letters.now c.loop-letter.letter-index 0 _ c.loop-letter-test.true) c.loop-letter.invariant.text c.loop-letter.invariant.first c.in_ok-is_first.ensures.text;
  first = put_first (bears c.args.names) c.args.letters.now c.loop-letter.letter-index _ c.loop-letter.is_first c.in_ok-is_first.is_first
      c.loop-letter-test.true (get_or_default c.args.letters.now c.loop-letter.letter-index 0 _ c.loop-letter-test.true) c.loop-letter.invariant.first c.in_ok-is_first.ensures.none;
}
