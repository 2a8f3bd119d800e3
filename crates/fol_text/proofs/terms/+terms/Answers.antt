use Rattle.fol_text.proofs.Taken.{terms_closed}
use Rattle.fol_text.proofs.terms.+terms.Goals as goal

pub arguments-returns-in-41 : goal.arguments-returns-in-41
arguments-returns-in-41 t c = record {
  read = terms_closed c.args.room c.args.text.now c.loop.rest.now c.in-Some.after.now c.loop.terms c.loop.invariant.read (rw c.in-41.is at c.in-Some.ensures.sign);
  one = c.loop.invariant.one;
}
