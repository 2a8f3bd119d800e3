use Rattle.std.proofs.Common.{◌≡◌, ◌+◌, length, arith, ap, subst}
use Rattle.nested_proofs.specs.AtLine.{AtLine}
use Rattle.proof_check.specs.Failing.{IsLineFault}
use Rattle.proof_check.specs.Readers.{PassBefore}
use Rattle.proof_check.proofs.Judging.{none_before, one_more, all_pass, fails_first}
use Rattle.proof_check.proofs.check.first_fault.Goals as goal

pub loop-i-init : goal.loop-i-init
loop-i-init c = none_before c.args.task.now c.args.lines.now

pub overflow_cast-number : goal.overflow_cast-number
overflow_cast-number c = omega (arith, c.loop-i-test.true, c.as_slice-i-end.ensures.lines.few, ap length c.as_slice-i-end.ensures.value)

pub overflow_add-number : goal.overflow_add-number
overflow_add-number c = omega (arith, c.loop-i-test.true, c.as_slice-i-end.ensures.lines.few, ap length c.as_slice-i-end.ensures.value)

pub returns-in-Some : goal.returns-in-Some
returns-in-Some c = record {
  first =
      let fault = subst (λ f. AtLine c.args.lines.now (c.loop-i.i + 1) (λ x. IsLineFault c.args.task.now x f)) c.in-Some.is c.in_ok-fault.ensures.fault in
      fails_first c.args.task.now c.args.lines.now (c.loop-i.i + 1) c.in-Some.fault (omega arith) (omega (arith, c.loop-i-test.true, ap length c.as_slice-i-end.ensures.value)) c.loop-i.invariant fault;
}

pub loop-i-preserved : goal.loop-i-preserved
loop-i-preserved c =
    let none = subst (λ f. AtLine c.args.lines.now (c.loop-i.i + 1) (λ x. IsLineFault c.args.task.now x f)) c.in_default.is c.in_ok-fault.ensures.fault in
    one_more c.args.task.now c.args.lines.now (c.loop-i.i + 1) c.loop-i.invariant none

pub returns : goal.returns
returns c = record {
  first =
      let all : c.loop-i.i ≡ length c.args.lines.now = omega (arith, c.loop-i.auto.i-end, c.loop-i-test.false, ap length c.as_slice-i-end.ensures.value) in
      all_pass c.args.task.now c.args.lines.now (subst (λ n. PassBefore c.args.task.now c.args.lines.now (n + 1)) all c.loop-i.invariant);
}
