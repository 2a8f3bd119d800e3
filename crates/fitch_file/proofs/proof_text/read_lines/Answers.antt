use Rattle.std.proofs.Common.{◌+◌, arith, subst, refl, ap, inr}
use Rattle.std.specs.Str.Lines.{lines}
use Rattle.fitch_file.proofs.Going.{Going, going_puts, spelled_all, fails_at, memory_at}
use Rattle.fitch_file.proofs.proof_text.read_lines.Goals as goal

pub loop-line-preserved : goal.loop-line-preserved
loop-line-preserved c = record {
  counted = omega (arith, c.in-Some.ensures.shorter);
  going = going_puts (c.args.header + 1) (lines c.args.text.now) (c.loop-line.place + 1) c.in-Some.line.now (lines c.in-Some.after.now) c.loop-line.lines c.put_line.new.lines
      (subst (λ ls. Going (c.args.header + 1) (lines c.args.text.now) (c.loop-line.place + 1) ls c.loop-line.lines) c.in-Some.ensures.line c.loop-line.invariant.going)
      c.in-Ok.ensures.put c.in-Ok.ensures.only;
}

pub returns-in-Err-clause-exact : goal.returns-in-Err-clause-exact
returns-in-Err-clause-exact c = λ zs h.
    inr (memory_at (c.args.header + 1) (lines c.args.text.now) (c.loop-line.place + 1) c.in-Some.line.now (lines c.in-Some.after.now) c.loop-line.lines c.in-Err.fault
    (subst (λ ls. Going (c.args.header + 1) (lines c.args.text.now) (c.loop-line.place + 1) ls c.loop-line.lines) c.in-Some.ensures.line c.loop-line.invariant.going)
    c.in-Err.ensures.refused c.in-Err.ensures.not_line zs h)

pub returns-in-Err-clause-refused : goal.returns-in-Err-clause-refused
returns-in-Err-clause-refused c =
    fails_at (c.args.header + 1) (lines c.args.text.now) (c.loop-line.place + 1) c.in-Some.line.now (lines c.in-Some.after.now) c.loop-line.lines c.in-Err.fault
    (subst (λ ls. Going (c.args.header + 1) (lines c.args.text.now) (c.loop-line.place + 1) ls c.loop-line.lines) c.in-Some.ensures.line c.loop-line.invariant.going)
    c.in-Err.ensures.refused

pub returns-clause-read : goal.returns-clause-read
returns-clause-read c =
    spelled_all (c.args.header + 1) (lines c.args.text.now) (c.loop-line.place + 1) c.loop-line.lines
    (subst (λ ls. Going (c.args.header + 1) (lines c.args.text.now) (c.loop-line.place + 1) ls c.loop-line.lines) (ap lines (c.in_default.ensures.none.0 refl)) c.loop-line.invariant.going)
