use Rattle.std.proofs.Common.{subst, sym}
use Rattle.fitch_file.specs.Cites.{IsPart}
use Rattle.fitch_file.specs.Readers.{TakesCite}
use Rattle.fitch_file.proofs.Resuming.{resumes_start}
use Rattle.fitch_file.proofs.Citing.{at_commas, Citing, taken_at, refused_at, taken_last, refused_last}
use Rattle.fitch_file.proofs.cites.read_cites.Goals as goal

pub loop-cite-init : goal.loop-cite-init
loop-cite-init c = subst (Citing c.args.text.now (at_commas c.args.text.now)) (sym c.new-cites.ensures.empty) (resumes_start IsPart (at_commas c.args.text.now))

pub returns-then-not-branch : goal.returns-then-not-branch
returns-then-not-branch c =
    refused_at c.args.text.now c.loop-cite.rest.now c.in-Some.cite.now c.in-Some.after.now c.loop-cite.cites c.put_cite.new.cites c.loop-cite.invariant c.in-Some.ensures.value (subst (TakesCite c.in-Some.cite.now c.loop-cite.cites c.put_cite.new.cites) c.if-not-branch.true c.in_ok-put_cite.ensures)

pub loop-cite-preserved : goal.loop-cite-preserved
loop-cite-preserved c =
    taken_at c.args.text.now c.loop-cite.rest.now c.in-Some.cite.now c.in-Some.after.now c.loop-cite.cites c.put_cite.new.cites c.loop-cite.invariant c.in-Some.ensures.value (subst (TakesCite c.in-Some.cite.now c.loop-cite.cites c.put_cite.new.cites) c.if-not-branch.false c.in_ok-put_cite.ensures)

pub returns-then-branch : goal.returns-then-branch
returns-then-branch c = taken_last c.args.text.now c.loop-cite.rest.now c.loop-cite.cites c.put_cite-2.new.cites c.loop-cite.invariant c.in_default.ensures.value (subst (TakesCite c.loop-cite.rest.now c.loop-cite.cites c.put_cite-2.new.cites) c.if-branch.true c.in_ok-put_cite-2.ensures)

pub returns-else-branch : goal.returns-else-branch
returns-else-branch c = refused_last c.args.text.now c.loop-cite.rest.now c.loop-cite.cites c.put_cite-2.new.cites c.loop-cite.invariant c.in_default.ensures.value (subst (TakesCite c.loop-cite.rest.now c.loop-cite.cites c.put_cite-2.new.cites) c.if-branch.false c.in_ok-put_cite-2.ensures)
