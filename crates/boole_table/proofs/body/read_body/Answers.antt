use Rattle.std.proofs.Common.{◌+◌, subst, arith}
use Rattle.std.specs.Str.Lines.{lines}
use Rattle.boole_table.specs.WrittenLines.{numbered, written_from}
use Rattle.boole_table.specs.Readers.{form_by}
use Rattle.boole_table.proofs.Filling.{Filled, filled_more, filled_all, rows_grow}
use Rattle.boole_table.proofs.body.read_body.Goals as goal

pub loop-next-preserved : goal.loop-next-preserved
loop-next-preserved c =
    let whole = written_from (c.args.before + 1) (lines c.args.text.now) in
    let left = written_from (c.in-Some.next.place + 1) (lines c.in-Some.next.rest.now) in
    record {
      filled = filled_more (form_by c.args.form) whole left (numbered c.in-Some.next.place c.in-Some.next.line.now) c.loop-next.body c.in-Ok.more
          (subst (λ ls. Filled (form_by c.args.form) whole ls c.loop-next.body) c.in-Some.ensures.value c.loop-next.invariant.filled) c.in-Ok.ensures.read;
      fits = omega (arith, c.in-Some.ensures.left, c.loop-next.invariant.fits);
      counted = omega (arith, c.in-Some.ensures.shorter, c.loop-next.invariant.counted, rows_grow (form_by c.args.form) c.loop-next.body c.in-Some.next.line.now c.in-Ok.more c.in-Ok.ensures.read);
    }

pub returns-clause-read : goal.returns-clause-read
returns-clause-read c =
    filled_all (form_by c.args.form) (written_from (c.args.before + 1) (lines c.args.text.now)) (written_from (c.loop-next.place + 1) (lines c.loop-next.rest.now)) c.loop-next.body
    c.loop-next.invariant.filled c.in_default.ensures.value
