use Rattle.std.proofs.Common.{◌∷◌, [], ap, length, arith, length-append}
use Rattle.fol_text.proofs.Taken.{next_chain, conjunction_read, disjunction_read}
use Rattle.fol_text.proofs.straight.+straight.Goals as goal

pub chain-loop-preserved : goal.chain-loop-preserved
chain-loop-preserved t c = record {
  read = λ k e. next_chain c.args.room c.args.sign c.args.text.now c.loop.rest.now c.in-Some.after.now c.in_ok-next.behind.now c.args.first c.in_ok-next.next
      c.loop.parts c.add-in-loop.new.self k (c.loop.invariant.read k e) e c.in-Some.ensures.sign c.in_ok-next.ensures.read c.in_ok-add-3.ensures.ok;
  two = omega (arith, c.loop.invariant.two, ap length c.in_ok-add-3.ensures.ok, length-append c.loop.parts (c.in_ok-next.next ∷ []));
}

pub sentence-returns-in_ok-parts-in-38 : goal.sentence-returns-in_ok-parts-in-38
sentence-returns-in_ok-parts-in-38 t c = record {
  read = rw c.of.ensures.value
      (conjunction_read c.args.room c.args.text.now c.in_ok-first.rest.now c.in-Some.after.now c.in_ok-parts-in-38.behind.now c.in_ok-first.first c.in_ok-parts-in-38.parts
      c.in_ok-first.ensures.read (rw c.in-38.is at c.in-Some.ensures.sign) c.in_ok-parts-in-38.ensures.read);
}

pub sentence-returns-in_ok-parts-in-124 : goal.sentence-returns-in_ok-parts-in-124
sentence-returns-in_ok-parts-in-124 t c = record {
  read = rw c.of-in-124.ensures.value
      (disjunction_read c.args.room c.args.text.now c.in_ok-first.rest.now c.in-Some.after.now c.in_ok-parts-in-124.behind.now c.in_ok-first.first c.in_ok-parts-in-124.parts
      c.in_ok-first.ensures.read (rw c.in-124.is at c.in-Some.ensures.sign) c.in_ok-parts-in-124.ensures.read);
}
