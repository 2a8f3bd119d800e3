use Rattle.nested_proofs.specs.AtLine.{AtLine}
use Rattle.proof_check.specs.Readers.{IsStepFault}
use Rattle.proof_check.proofs.LineFaults.{cites_fail, cites_pass, turned}
use Rattle.proof_check.proofs.line.step_fault.Goals as goal

pub returns-in-Ok : goal.returns-in-Ok
returns-in-Ok c = record {
  fault = turned c.named.result _ (λ f. AtLine c.args.lines.now c.args.j (λ x. IsStepFault x f))
      (λ f e. cites_pass c.args.lines.now c.args.j c.rule_met.result f c.in-Ok.ensures.exact c.rule_met.ensures.stands c.rule_met.ensures.fails e) c.named.ensures.value;
}

pub returns-in_default : goal.returns-in_default
returns-in_default c = record {
  fault = turned c.named-in_default.result _ (λ f. AtLine c.args.lines.now c.args.j (λ x. IsStepFault x f))
      (λ f e. cites_fail c.args.lines.now c.args.j c.cites_ok.result f c.in_default.not-Ok c.cites_ok.ensures.exact e) c.named-in_default.ensures.value;
}
