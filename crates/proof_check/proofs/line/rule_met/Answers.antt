use Rattle.std.proofs.Common.{◌≡◌, ◌-◌, get_or, sym, subst, ◌∙◌, true, false}
use Rattle.std.specs.Prelude.{OnOk, OnErr}
use Rattle.deriv_laws.specs.declared.line.FlatLine.{FlatLine}
use Rattle.nested_proofs.specs.AtLine.{AtLine}
use Rattle.nested_proofs.specs.FollowsAt.{FollowsAt}
use Rattle.nested_proofs.specs.StaysAt.{StaysAt}
use Rattle.rules_prop.specs.Propositional.{is_propositional}
use Rattle.rules_quant.specs.Quantified.{is_quantified}
use Rattle.proof_check.proofs.LineFaults.{at_kind, at_other, prop_stands, prop_fails, quant_stands}
use Rattle.proof_check.proofs.line.rule_met.Goals as goal

pub check_prop-requires-clause-rule : goal.check_prop-requires-clause-rule
check_prop-requires-clause-rule c =
    let e : c.index-as_slice-j.result ≡ get_or c.args.lines.now (c.args.j - 1) c.index-as_slice-j.result = cc in
    subst (λ ls. AtLine ls c.args.j (λ x. is_propositional x.line.rule ≡ true)) (sym c.as_slice-then-is_propositional.ensures.value)
    (at_kind is_propositional c.args.lines.now c.args.j c.index-as_slice-j.result c.requires.first c.requires.within e (subst (λ (y : FlatLine). is_propositional y.rule ≡ true) (sym c.index-as_slice-j.is) (sym c.is_propositional.ensures.value ∙ c.if-is_propositional.true)))

pub returns-then-is_propositional-clause-stands : goal.returns-then-is_propositional-clause-stands
returns-then-is_propositional-clause-stands c =
    let e : c.index-as_slice-j.result ≡ get_or c.args.lines.now (c.args.j - 1) c.index-as_slice-j.result = cc in
    prop_stands c.args.lines.now c.args.j c.check_prop.result
    (at_kind is_propositional c.args.lines.now c.args.j c.index-as_slice-j.result c.requires.first c.requires.within e (subst (λ (y : FlatLine). is_propositional y.rule ≡ true) (sym c.index-as_slice-j.is) (sym c.is_propositional.ensures.value ∙ c.if-is_propositional.true)))
    (subst (λ ls. OnOk c.check_prop.result (AtLine ls c.args.j FollowsAt)) c.as_slice-then-is_propositional.ensures.value c.check_prop.ensures.ok)

pub returns-then-is_propositional-clause-fails : goal.returns-then-is_propositional-clause-fails
returns-then-is_propositional-clause-fails c =
    prop_fails c.args.lines.now c.args.j c.check_prop.result c.check_prop.ensures.only
    (subst (λ ls. OnErr c.check_prop.result (AtLine ls c.args.j (λ x. FollowsAt x → ⊥))) c.as_slice-then-is_propositional.ensures.value c.check_prop.ensures.err)

pub check_quant-requires-clause-rule : goal.check_quant-requires-clause-rule
check_quant-requires-clause-rule c =
    let e : c.index-as_slice-j.result ≡ get_or c.args.lines.now (c.args.j - 1) c.index-as_slice-j.result = cc in
    subst (λ ls. AtLine ls c.args.j (λ x. is_quantified x.line.rule ≡ true)) (sym c.as_slice-2.ensures.value)
    (at_other c.args.lines.now c.args.j c.index-as_slice-j.result c.requires.first c.requires.within e (subst (λ (y : FlatLine). is_propositional y.rule ≡ false) (sym c.index-as_slice-j.is) (sym c.is_propositional.ensures.value ∙ c.if-is_propositional.false)) c.requires.rule)

pub returns-clause-stands : goal.returns-clause-stands
returns-clause-stands c =
    quant_stands c.args.lines.now c.args.j c.check_quant.result
    (subst (λ ls. OnOk c.check_quant.result (AtLine ls c.args.j FollowsAt)) c.as_slice-2.ensures.value c.check_quant.ensures.follows)
    (subst (λ ls. OnOk c.check_quant.result (AtLine ls c.args.j StaysAt)) c.as_slice-2.ensures.value c.check_quant.ensures.stays)
