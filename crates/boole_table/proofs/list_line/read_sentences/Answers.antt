use Rattle.std.proofs.Common.{◌∷◌, length, ap, sym, subst, arith, length-append}
use Rattle.boole_table.proofs.Listing.{Lists, lists_more, lists_stop, lists_none, found_one, found_none}
use Rattle.boole_table.proofs.list_line.read_sentences.Goals as goal

pub returns-in-None : goal.returns-in-None
returns-in-None c = lists_stop c.args.text.now c.loop-front.rest.now c.in-Some.front.now c.in-Some.after.now c.loop-front.sentences c.loop-front.invariant.lists c.in-Some.ensures.value (found_none c.in-Some.front.now c.in_ok-sentence.field-0 c.in-None.is c.in_ok-sentence.ensures)

pub loop-front-preserved : goal.loop-front-preserved
loop-front-preserved c = record {
  lists = subst (Lists c.args.text.now c.in-Some.after.now) (sym c.in_ok-add-in-Some-2.ensures.ok)
      (lists_more c.args.text.now c.loop-front.rest.now c.in-Some.front.now c.in-Some.after.now c.loop-front.sentences c.in-Some-2.sentence c.loop-front.invariant.lists c.in-Some.ensures.value (found_one c.in-Some.front.now c.in_ok-sentence.field-0 c.in-Some-2.sentence c.in-Some-2.is c.in_ok-sentence.ensures));
  fits = omega (arith, ap length c.in-Some.ensures.value.joined, length-append c.in-Some.front.now (59 ∷ c.in-Some.after.now), c.loop-front.invariant.fits);
}

pub returns-in-None-2 : goal.returns-in-None-2
returns-in-None-2 c = lists_none c.args.text.now c.loop-front.rest.now c.loop-front.sentences c.loop-front.invariant.lists c.in_default.ensures.value (found_none c.loop-front.rest.now c.in_ok-sentence-2.field-0 c.in-None-2.is c.in_ok-sentence-2.ensures)
