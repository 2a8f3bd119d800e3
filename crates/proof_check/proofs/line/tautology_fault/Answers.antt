use Rattle.nested_proofs.specs.AtLine.{AtLine}
use Rattle.proof_check.specs.Readers.{IsTableFault, IsTautStepFault}
use Rattle.proof_check.proofs.LineFaults.{turned}
use Rattle.proof_check.proofs.Tautologies.{cites_fail, cites_pass}
use Rattle.proof_check.proofs.line.tautology_fault.Goals as goal

pub returns-in-Ok : goal.returns-in-Ok
returns-in-Ok c = record {
  fault = turned c.table_fault.result (λ f. AtLine c.args.lines.now c.args.j (λ x. IsTableFault x f)) (λ f. AtLine c.args.lines.now c.args.j (λ x. IsTautStepFault x f))
      (λ f h. cites_pass c.args.lines.now c.args.j f c.in-Ok.ensures.exact h) c.table_fault.ensures.fault;
}

pub returns-in_default : goal.returns-in_default
returns-in_default c = record {
  fault = turned c.named.result _ (λ f. AtLine c.args.lines.now c.args.j (λ x. IsTautStepFault x f))
      (λ f e. cites_fail c.args.lines.now c.args.j c.cites_ok.result f c.in_default.not-Ok c.cites_ok.ensures.exact e) c.named.ensures.value;
}
