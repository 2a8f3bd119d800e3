use Rattle.std.proofs.Common.{◌≡◌, ◌-◌, get_or, rules}
use Rattle.nested_proofs.specs.AtLine.{AtLine}
use Rattle.nested_proofs.specs.CiteTests.{is_inferred}
use Rattle.proof_check.specs.Failing.{IsLineFault}
use Rattle.proof_check.specs.Readers.{IsBoxFault, IsInferenceFault}
use Rattle.proof_check.proofs.LineFaults.{at_premise, at_opening, at_kind, turned}
use Rattle.proof_check.proofs.Tautologies.{at_inference, inferred}
use Rattle.proof_check.proofs.line.line_fault.Goals as goal

pub returns-in-Premise : goal.returns-in-Premise
returns-in-Premise c = let e : c.index-as_slice-j.result ≡ get_or c.args.lines.now (c.args.j - 1) c.index-as_slice-j.result = cc in record {
  fault =
      at_premise c.args.task.now c.args.lines.now c.args.j c.index-as_slice-j.result c.premise_fault.result c.as_slice.ensures.lines.well_nested c.requires.first c.requires.within e
      c.in-Premise.is (search rules);
}

pub returns-in-Assume : goal.returns-in-Assume
returns-in-Assume c = let e : c.index-as_slice-j.result ≡ get_or c.args.lines.now (c.args.j - 1) c.index-as_slice-j.result = cc in record {
  fault =
      turned c.opening_fault.result (λ f. AtLine c.args.lines.now c.args.j (λ x. IsBoxFault c.args.task.now.premises x f)) (λ f. AtLine c.args.lines.now c.args.j (λ x. IsLineFault c.args.task.now x f))
      (λ f h. at_opening c.args.task.now c.args.lines.now c.args.j c.index-as_slice-j.result f c.requires.first c.requires.within e c.in-Assume.is h) c.opening_fault.ensures.fault;
}

pub returns-in_default : goal.returns-in_default
returns-in_default c = let e : c.index-as_slice-j.result ≡ get_or c.args.lines.now (c.args.j - 1) c.index-as_slice-j.result = cc in record {
  fault =
      turned c.inference_fault.result (λ f. AtLine c.args.lines.now c.args.j (λ x. IsInferenceFault c.args.task.now.allowed x f)) (λ f. AtLine c.args.lines.now c.args.j (λ x. IsLineFault c.args.task.now x f))
      (λ f h. at_inference c.args.task.now c.args.lines.now c.args.j c.index-as_slice-j.result f c.as_slice.ensures.lines.well_nested c.requires.first c.requires.within e
      (inferred c.index-as_slice-j.result.rule c.in_default.not-Premise c.in_default.not-Assume c.in_default.not-BoxOnly) h) c.inference_fault.ensures.fault;
}

pub inference_fault-requires : goal.inference_fault-requires
inference_fault-requires c =
    let e : c.index-as_slice-j.result ≡ get_or c.args.lines.now (c.args.j - 1) c.index-as_slice-j.result = cc in
    record {
      first = c.requires.first;
      within = c.requires.within;
      rule = at_kind is_inferred c.args.lines.now c.args.j c.index-as_slice-j.result c.requires.first c.requires.within e
          (inferred c.index-as_slice-j.result.rule c.in_default.not-Premise c.in_default.not-Assume c.in_default.not-BoxOnly);
      fit = c.requires.fit;
    }
