use Rattle.std.proofs.Common.{◌+◌, arith, ap, sym, subst, Ok, Err, refl}
use Rattle.std.specs.Str.Lines.{lines}
use Rattle.sentence_lists.proofs.Going.{Going, at_start, goes_on, spelled, fails_here}
use Rattle.sentence_lists.proofs.Once.{read_exactly}
use Rattle.sentence_lists.proofs.list.read_sentences.Goals as goal

pub loop-line-init : goal.loop-line-init
loop-line-init c = record { counted = omega arith; going = subst (λ done. Going c.args.most (lines c.args.text.now) 1 (lines c.args.text.now) done) (sym c.new-sentences.ensures.empty) (at_start c.args.most (lines c.args.text.now)) }

pub loop-line-preserved : goal.loop-line-preserved
loop-line-preserved c = record {
  counted = omega (arith, c.in-Some.ensures.shorter, c.loop-line.invariant.counted);
  going = goes_on c.args.most (lines c.args.text.now) (c.loop-line.place + 1) c.in-Some.line.now (lines c.in-Some.after.now) c.loop-line.sentences c.put_line.new.sentences
      (subst (λ ls. Going c.args.most (lines c.args.text.now) (c.loop-line.place + 1) ls c.loop-line.sentences) c.in-Some.ensures.line c.loop-line.invariant.going)
      c.in-Ok.ensures.put;
}

pub returns-in-Err-clause-refused : goal.returns-in-Err-clause-refused
returns-in-Err-clause-refused c =
    fails_here c.args.most (lines c.args.text.now) (c.loop-line.place + 1) c.in-Some.line.now (lines c.in-Some.after.now) c.loop-line.sentences c.in-Err.fault
    (subst (λ ls. Going c.args.most (lines c.args.text.now) (c.loop-line.place + 1) ls c.loop-line.sentences) c.in-Some.ensures.line c.loop-line.invariant.going)
    c.in-Err.ensures.refused

pub returns-in-Err-clause-exact : goal.returns-in-Err-clause-exact
returns-in-Err-clause-exact c =
    read_exactly c.args.most (lines c.args.text.now) (Err (c.loop-line.place + 1, c.in-Err.fault)) tt
    (fails_here c.args.most (lines c.args.text.now) (c.loop-line.place + 1) c.in-Some.line.now (lines c.in-Some.after.now) c.loop-line.sentences c.in-Err.fault
    (subst (λ ls. Going c.args.most (lines c.args.text.now) (c.loop-line.place + 1) ls c.loop-line.sentences) c.in-Some.ensures.line c.loop-line.invariant.going)
    c.in-Err.ensures.refused)

pub returns-clause-read : goal.returns-clause-read
returns-clause-read c =
    spelled c.args.most (lines c.args.text.now) (c.loop-line.place + 1) c.loop-line.sentences
    (subst (λ ls. Going c.args.most (lines c.args.text.now) (c.loop-line.place + 1) ls c.loop-line.sentences) (ap lines (c.in_default.ensures.none.0 refl)) c.loop-line.invariant.going)

pub returns-clause-exact : goal.returns-clause-exact
returns-clause-exact c =
    read_exactly c.args.most (lines c.args.text.now) (Ok c.loop-line.sentences)
    (spelled c.args.most (lines c.args.text.now) (c.loop-line.place + 1) c.loop-line.sentences
    (subst (λ ls. Going c.args.most (lines c.args.text.now) (c.loop-line.place + 1) ls c.loop-line.sentences) (ap lines (c.in_default.ensures.none.0 refl)) c.loop-line.invariant.going)) tt
