use Rattle.std.proofs.Common.{◌≡◌, ◌-◌, get_or, true, false, rules}
use Rattle.nested_proofs.specs.AtLine.{AtLine}
use Rattle.proof_check.specs.Failing.{is_own, is_tautological, is_allowed}
use Rattle.proof_check.specs.Readers.{IsInferenceFault, IsStepFault, IsTautStepFault}
use Rattle.proof_check.proofs.LineFaults.{at_kind, turned}
use Rattle.proof_check.proofs.Tautologies.{at_refused, at_tautology, at_own, own_rule}
use Rattle.proof_check.proofs.line.inference_fault.Goals as goal

pub returns-then-not-is_allowed : goal.returns-then-not-is_allowed
returns-then-not-is_allowed c =
    let e : c.index-as_slice-j.result ≡ get_or c.args.lines.now (c.args.j - 1) c.index-as_slice-j.result = cc in
    let a : is_allowed c.args.allowed c.index-as_slice-j.result.rule ≡ false = search rules in
    record { fault = at_refused c.args.allowed c.args.lines.now c.args.j c.index-as_slice-j.result c.requires.first c.requires.within e a }

pub tautology_fault-requires-clause-rule : goal.tautology_fault-requires-clause-rule
tautology_fault-requires-clause-rule c =
    let e : c.index-as_slice-j.result ≡ get_or c.args.lines.now (c.args.j - 1) c.index-as_slice-j.result = cc in
    let t : is_tautological c.index-as_slice-j.result.rule ≡ true = search rules in
    at_kind is_tautological c.args.lines.now c.args.j c.index-as_slice-j.result c.requires.first c.requires.within e t

pub returns-then-is_tautological : goal.returns-then-is_tautological
returns-then-is_tautological c =
    let e : c.index-as_slice-j.result ≡ get_or c.args.lines.now (c.args.j - 1) c.index-as_slice-j.result = cc in
    let a : is_allowed c.args.allowed c.index-as_slice-j.result.rule ≡ true = search rules in
    let t : is_tautological c.index-as_slice-j.result.rule ≡ true = search rules in
    record {
      fault = turned c.tautology_fault.result (λ f. AtLine c.args.lines.now c.args.j (λ x. IsTautStepFault x f)) (λ f. AtLine c.args.lines.now c.args.j (λ x. IsInferenceFault c.args.allowed x f))
          (λ f h. at_tautology c.args.allowed c.args.lines.now c.args.j c.index-as_slice-j.result f c.requires.first c.requires.within e a t h) c.tautology_fault.ensures.fault;
    }

pub step_fault-requires-clause-rule : goal.step_fault-requires-clause-rule
step_fault-requires-clause-rule c =
    let e : c.index-as_slice-j.result ≡ get_or c.args.lines.now (c.args.j - 1) c.index-as_slice-j.result = cc in
    let a : is_allowed c.args.allowed c.index-as_slice-j.result.rule ≡ true = search rules in
    let t : is_tautological c.index-as_slice-j.result.rule ≡ false = search rules in
    at_kind is_own c.args.lines.now c.args.j c.index-as_slice-j.result c.requires.first c.requires.within e (own_rule c.args.allowed c.index-as_slice-j.result.rule a t)

pub returns : goal.returns
returns c =
    let e : c.index-as_slice-j.result ≡ get_or c.args.lines.now (c.args.j - 1) c.index-as_slice-j.result = cc in
    let a : is_allowed c.args.allowed c.index-as_slice-j.result.rule ≡ true = search rules in
    let t : is_tautological c.index-as_slice-j.result.rule ≡ false = search rules in
    record {
      fault = turned c.step_fault.result (λ f. AtLine c.args.lines.now c.args.j (λ x. IsStepFault x f)) (λ f. AtLine c.args.lines.now c.args.j (λ x. IsInferenceFault c.args.allowed x f))
          (λ f h. at_own c.args.allowed c.args.lines.now c.args.j c.index-as_slice-j.result f c.requires.first c.requires.within e a t h) c.step_fault.ensures.fault;
    }
