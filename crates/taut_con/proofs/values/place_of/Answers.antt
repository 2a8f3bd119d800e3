-- The first letter that is the sentence gives its place.
use Rattle.std.proofs.Common.{rules, arith}
use Rattle.taut_con.proofs.Placing.{found_at, found_nowhere}
use Rattle.taut_con.proofs.values.place_of.Goals as goal

pub returns-then-is_alike : goal.returns-then-is_alike
returns-then-is_alike c = record {
  value =
      found_at c.args.letters.now c.args.letter.now c.index-letters-i.result c.loop-i.i c.loop-i-test.true c.index-letters-i.is
      (λ k d w. c.loop-i.invariant k d (omega arith) w) (search rules);
}

pub returns : goal.returns
returns c = record {
  value = found_nowhere c.args.letters.now c.args.letter.now (λ k d w. c.loop-i.invariant k d (omega arith) (omega (arith, w, c.loop-i-test.false)));
}
