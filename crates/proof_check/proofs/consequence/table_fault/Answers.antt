use Rattle.std.proofs.Common.{◌≡◌, ◌-◌, ◌≤◌, length, get_or, ap, ap₂, sym, subst, ◌∙◌, Some}
use Rattle.std.specs.Prelude.{slice_get}
use Rattle.std.specs.List.{AllByRecursion}
use Rattle.fol_core.specs.Size.{nodes}
use Rattle.nested_proofs.specs.ReadOff.{IsWithin, sentences_read}
use Rattle.nested_proofs.proofs.AtCited.{HasCites}
use Rattle.nested_proofs.proofs.Reading.{line_at}
use Rattle.taut_con.specs.Answer.{taut_answer}
use Rattle.proof_check.specs.Failing.{taut_fault}
use Rattle.proof_check.proofs.Cited.{cites_at, table_at, stated_few, few_cites, small_in_all, no_statement}
use Rattle.proof_check.proofs.consequence.table_fault.Goals as goal

pub returns-in_default : goal.returns-in_default
returns-in_default c =
    let e : c.index-as_slice-j.result ≡ get_or c.args.lines.now (c.args.j - 1) c.index-as_slice-j.result = cc in
    record {
      fault = no_statement c.args.lines.now c.args.j c.index-as_slice-j.result _ c.as_slice.ensures.lines c.requires.first c.requires.within e c.requires.rule (λ s f. c.in_default.not-Some s f);
    }

pub cited_copies-requires : goal.cited_copies-requires
cited_copies-requires c =
    let e : c.index-as_slice-j.result ≡ get_or c.args.lines.now (c.args.j - 1) c.index-as_slice-j.result = cc in
    let h : HasCites c.args.lines.now c.args.j c.index-as_slice-j.result = cites_at c.args.lines.now c.args.j c.index-as_slice-j.result c.as_slice.ensures.lines c.requires.first c.requires.within e c.requires.rule c.requires.cites in
    record {
      within =
          subst (λ ls. AllByRecursion (IsWithin (length ls)) c.as_slice-3.result.now) (sym c.as_slice-2.ensures.value)
          (subst (λ cs. AllByRecursion (IsWithin (length c.args.lines.now)) cs) (sym c.as_slice-3.ensures.value) h.within);
    }

pub taut_con-requires : goal.taut_con-requires
taut_con-requires c =
    let e : c.index-as_slice-j.result ≡ get_or c.args.lines.now (c.args.j - 1) c.index-as_slice-j.result = cc in
    let at : slice_get c.args.lines.now (c.args.j - 1) ≡ Some c.index-as_slice-j.result = line_at c.args.lines.now c.args.j c.index-as_slice-j.result c.requires.first c.requires.within e in
    let few : nodes c.in-Some.goal ≤ 400 = stated_few c.args.lines.now (c.args.j - 1) c.index-as_slice-j.result c.in-Some.goal c.requires.fit at c.in-Some.is in
    let cites : length c.index-as_slice-j.result.cites ≤ 64 = few_cites c.args.lines.now (c.args.j - 1) c.index-as_slice-j.result c.as_slice.ensures.lines at in
    let cited : c.in_ok-premises.premises ≡ sentences_read c.args.lines.now c.index-as_slice-j.result.cites = c.in_ok-premises.ensures.value ∙ ap₂ sentences_read c.as_slice-2.ensures.value c.as_slice-3.ensures.value in
    record { small = small_in_all c.args.lines.now c.index-as_slice-j.result.cites c.in_ok-premises.premises c.in-Some.goal c.requires.fit cites cited few }

pub returns : goal.returns
returns c =
    let e : c.index-as_slice-j.result ≡ get_or c.args.lines.now (c.args.j - 1) c.index-as_slice-j.result = cc in
    let h : HasCites c.args.lines.now c.args.j c.index-as_slice-j.result = cites_at c.args.lines.now c.args.j c.index-as_slice-j.result c.as_slice.ensures.lines c.requires.first c.requires.within e c.requires.rule c.requires.cites in
    let cited : c.in_ok-premises.premises ≡ sentences_read c.args.lines.now c.index-as_slice-j.result.cites = c.in_ok-premises.ensures.value ∙ ap₂ sentences_read c.as_slice-2.ensures.value c.as_slice-3.ensures.value in
    record {
      fault = table_at c.args.lines.now c.args.j c.index-as_slice-j.result c.in-Some.goal c.taut_fault.result c.as_slice.ensures.lines c.requires.within h c.in-Some.is
          (c.taut_fault.ensures.value ∙ ap taut_fault c.in_ok-taut_con.ensures.answer ∙ ap (λ ps. taut_fault (taut_answer ps c.in-Some.goal)) cited);
    }
