use Rattle.std.proofs.Common.{◌≡◌, ◌-◌, get_or, Some, None}
use Rattle.proof_check.proofs.LineFaults.{at_stale, at_unboxed, at_fresh}
use Rattle.proof_check.proofs.line.opening_fault.Goals as goal

pub returns-then-box_is_fresh : goal.returns-then-box_is_fresh
returns-then-box_is_fresh c = record { fault = at_fresh c.args.task.now.premises c.args.lines.now c.args.j c.box_is_fresh.result c.if-box_is_fresh.true c.box_is_fresh.ensures.exact }

pub returns-in_ok-copied-in-Some : goal.returns-in_ok-copied-in-Some
returns-in_ok-copied-in-Some c =
    let e : c.index-as_slice-j.result ≡ get_or c.args.lines.now (c.args.j - 1) c.index-as_slice-j.result = cc in
    let b : c.index-as_slice-j.result.boxed ≡ Some c.in-Some.constant = cc in
    record {
      fault =
          at_stale c.args.task.now.premises c.args.lines.now c.args.j c.index-as_slice-j.result c.box_is_fresh.result c.in-Some.constant c.in_ok-copied-in-Some.field-0 c.requires.first c.requires.within e c.if-box_is_fresh.false b
          c.in_ok-copied-in-Some.ensures.value c.box_is_fresh.ensures.exact;
    }

pub returns-in-None : goal.returns-in-None
returns-in-None c =
    let e : c.index-as_slice-j.result ≡ get_or c.args.lines.now (c.args.j - 1) c.index-as_slice-j.result = cc in
    let b : c.index-as_slice-j.result.boxed ≡ None = cc in
    record { fault = at_unboxed c.args.task.now.premises c.args.lines.now c.args.j c.index-as_slice-j.result c.requires.first c.requires.within e b }
