-- The first fault by what is visible is the first fault of the cites.
use Rattle.std.proofs.Common.{◌≡◌, ◌-◌, get_or, sym, ◌∙◌, Some, Ok, Err}
use Rattle.std.specs.Prelude.{slice_get}
use Rattle.nested_proofs.specs.CiteTests.{IsVerdict, cites_fault}
use Rattle.nested_proofs.specs.Limits.{IsLineForm}
use Rattle.nested_proofs.proofs.Reading.{where_agrees, at_each, line_at}
use Rattle.nested_proofs.proofs.CiteFaults.{fault_at}
use Rattle.nested_proofs.proofs.cites.cites_ok.Goals as goal

pub returns-in-None : goal.returns-in-None
returns-in-None c = record {
  exact =
      let ls = c.args.proof.now in
      let l = c.index-as_slice-j.result in
      let e : l ≡ get_or ls (c.args.j - 1) l = cc in
      let found : slice_get ls (c.args.j - 1) ≡ Some l = line_at ls c.args.j l c.requires.first c.requires.within e in
      where_agrees ls c.args.j (λ x. IsVerdict (cites_fault x.line.rule x.around.scope x.line.cites) (Ok tt))
      (λ x a. fault_at ls c.args.j x l found (at_each IsLineForm ls (c.args.j - 1) l c.as_slice.ensures.lines.forms found).cites.forms a ∙ sym c.line_fault.ensures.value ∙ c.in-None.is);
}

pub returns-in-Some : goal.returns-in-Some
returns-in-Some c = record {
  exact =
      let ls = c.args.proof.now in
      let l = c.index-as_slice-j.result in
      let e : l ≡ get_or ls (c.args.j - 1) l = cc in
      let found : slice_get ls (c.args.j - 1) ≡ Some l = line_at ls c.args.j l c.requires.first c.requires.within e in
      where_agrees ls c.args.j (λ x. IsVerdict (cites_fault x.line.rule x.around.scope x.line.cites) (Err c.in-Some.fault))
      (λ x a. fault_at ls c.args.j x l found (at_each IsLineForm ls (c.args.j - 1) l c.as_slice.ensures.lines.forms found).cites.forms a ∙ sym c.line_fault.ensures.value ∙ c.in-Some.is);
}
