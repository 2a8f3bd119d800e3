-- What is read off the lines is what the line's cites find in its proof.
use Rattle.std.proofs.Common.{◌≡◌, ◌∙◌, sym, subst, length, true, false}
use Rattle.std.specs.List.{AllByRecursion}
use Rattle.nested_proofs.specs.CiteTests.{counts_fit}
use Rattle.nested_proofs.specs.ReadOff.{IsWithin, sentences_read, subproofs_read}
use Rattle.nested_proofs.specs.Rules.{Follows, StaysArbitrary}
use Rattle.nested_proofs.specs.StaysAt.{OneBoxes}
use Rattle.nested_proofs.proofs.Reading.{line_at}
use Rattle.nested_proofs.proofs.AtStep.{IsReady, ready, follows_at, not_at}
use Rattle.rules_quant.proofs.AtQuant.{stays_at, fails_fresh}
use Rattle.rules_quant.proofs.Citing.{inferred}
use Rattle.rules_quant.specs.Quantified.{is_quantified}
use Rattle.rules_quant.proofs.check.check_quant.Goals as goal

pub returns-in_default-clause-fails : goal.returns-in_default-clause-fails
returns-in_default-clause-fails c =
    let ls = c.args.lines.now in
    let l = c.index-lines-j.result in
    let now : IsReady is_quantified ls c.args.j l = ready is_quantified inferred ls c.args.j l c.requires.lines c.requires.first c.requires.within (line_at ls c.args.j l c.requires.first c.requires.within c.index-lines-j.is) c.requires.rule c.requires.cites in
    not_at ls c.args.j l c.requires.lines c.requires.within now.cites (λ s e f. c.in_default.not-Some s e)

pub follows-requires-clause-rule : goal.follows-requires-clause-rule
follows-requires-clause-rule c =
    let ls = c.args.lines.now in
    let l = c.index-lines-j.result in
    (ready is_quantified inferred ls c.args.j l c.requires.lines c.requires.first c.requires.within (line_at ls c.args.j l c.requires.first c.requires.within c.index-lines-j.is) c.requires.rule c.requires.cites).rule

pub follows-requires-clause-counts : goal.follows-requires-clause-counts
follows-requires-clause-counts c =
    let ls = c.args.lines.now in
    let l = c.index-lines-j.result in
    let now : IsReady is_quantified ls c.args.j l = ready is_quantified inferred ls c.args.j l c.requires.lines c.requires.first c.requires.within (line_at ls c.args.j l c.requires.first c.requires.within c.index-lines-j.is) c.requires.rule c.requires.cites in
    subst (λ cs. counts_fit l.rule cs ≡ true) (sym c.as_slice.ensures.value) now.cites.counts

pub follows-requires-clause-within : goal.follows-requires-clause-within
follows-requires-clause-within c =
    let ls = c.args.lines.now in
    let l = c.index-lines-j.result in
    let now : IsReady is_quantified ls c.args.j l = ready is_quantified inferred ls c.args.j l c.requires.lines c.requires.first c.requires.within (line_at ls c.args.j l c.requires.first c.requires.within c.index-lines-j.is) c.requires.rule c.requires.cites in
    subst (AllByRecursion (IsWithin (length ls))) (sym c.as_slice.ensures.value) now.cites.within

pub returns-then-not-follows-clause-fails : goal.returns-then-not-follows-clause-fails
returns-then-not-follows-clause-fails c =
    let ls = c.args.lines.now in
    let l = c.index-lines-j.result in
    let now : IsReady is_quantified ls c.args.j l = ready is_quantified inferred ls c.args.j l c.requires.lines c.requires.first c.requires.within (line_at ls c.args.j l c.requires.first c.requires.within c.index-lines-j.is) c.requires.rule c.requires.cites in
    not_at ls c.args.j l c.requires.lines c.requires.within now.cites (λ s e f.
    let q : s ≡ c.in-Some.s = cc in
    let t = c.follows.ensures.exact.1 (subst (λ cs. Follows l.rule (sentences_read ls cs) (subproofs_read ls cs) c.in-Some.s) (sym c.as_slice.ensures.value) (subst (λ x. Follows l.rule (sentences_read ls l.cites) (subproofs_read ls l.cites) x) q f)) in
    let u : true ≡ false = sym t ∙ c.if-not-follows.true in cc)

pub spoilt-requires-clause-rule : goal.spoilt-requires-clause-rule
spoilt-requires-clause-rule c =
    let ls = c.args.lines.now in
    let l = c.index-lines-j.result in
    (ready is_quantified inferred ls c.args.j l c.requires.lines c.requires.first c.requires.within (line_at ls c.args.j l c.requires.first c.requires.within c.index-lines-j.is) c.requires.rule c.requires.cites).rule

pub spoilt-requires-clause-counts : goal.spoilt-requires-clause-counts
spoilt-requires-clause-counts c =
    let ls = c.args.lines.now in
    let l = c.index-lines-j.result in
    let now : IsReady is_quantified ls c.args.j l = ready is_quantified inferred ls c.args.j l c.requires.lines c.requires.first c.requires.within (line_at ls c.args.j l c.requires.first c.requires.within c.index-lines-j.is) c.requires.rule c.requires.cites in
    subst (λ cs. counts_fit l.rule cs ≡ true) (sym c.as_slice-2.ensures.value) now.cites.counts

pub spoilt-requires-clause-within : goal.spoilt-requires-clause-within
spoilt-requires-clause-within c =
    let ls = c.args.lines.now in
    let l = c.index-lines-j.result in
    let now : IsReady is_quantified ls c.args.j l = ready is_quantified inferred ls c.args.j l c.requires.lines c.requires.first c.requires.within (line_at ls c.args.j l c.requires.first c.requires.within c.index-lines-j.is) c.requires.rule c.requires.cites in
    subst (AllByRecursion (IsWithin (length ls))) (sym c.as_slice-2.ensures.value) now.cites.within

pub returns-in-None-clause-follows : goal.returns-in-None-clause-follows
returns-in-None-clause-follows c =
    let ls = c.args.lines.now in
    let l = c.index-lines-j.result in
    let now : IsReady is_quantified ls c.args.j l = ready is_quantified inferred ls c.args.j l c.requires.lines c.requires.first c.requires.within (line_at ls c.args.j l c.requires.first c.requires.within c.index-lines-j.is) c.requires.rule c.requires.cites in
    let yes : Follows l.rule (sentences_read ls l.cites) (subproofs_read ls l.cites) c.in-Some.s = subst (λ cs. Follows l.rule (sentences_read ls cs) (subproofs_read ls cs) c.in-Some.s) c.as_slice.ensures.value (c.follows.ensures.exact.0 c.if-not-follows.false) in
    follows_at ls c.args.j l c.in-Some.s c.requires.lines c.requires.within now.cites c.in-Some.is yes

pub returns-in-None-clause-stays : goal.returns-in-None-clause-stays
returns-in-None-clause-stays c =
    let ls = c.args.lines.now in
    let l = c.index-lines-j.result in
    let now : IsReady is_quantified ls c.args.j l = ready is_quantified inferred ls c.args.j l c.requires.lines c.requires.first c.requires.within (line_at ls c.args.j l c.requires.first c.requires.within c.index-lines-j.is) c.requires.rule c.requires.cites in
    stays_at ls c.args.j l c.in-Some.s c.requires.lines c.requires.within now.cites c.in-Some.is
    (subst (λ cs. StaysArbitrary l.rule (sentences_read ls cs) (subproofs_read ls cs) c.in-Some.s) c.as_slice-2.ensures.value c.in-None.ensures.exact)

pub returns-in-Some-spoilt-clause-fails : goal.returns-in-Some-spoilt-clause-fails
returns-in-Some-spoilt-clause-fails c =
    let ls = c.args.lines.now in
    let l = c.index-lines-j.result in
    let now : IsReady is_quantified ls c.args.j l = ready is_quantified inferred ls c.args.j l c.requires.lines c.requires.first c.requires.within (line_at ls c.args.j l c.requires.first c.requires.within c.index-lines-j.is) c.requires.rule c.requires.cites in
    let yes : Follows l.rule (sentences_read ls l.cites) (subproofs_read ls l.cites) c.in-Some.s = subst (λ cs. Follows l.rule (sentences_read ls cs) (subproofs_read ls cs) c.in-Some.s) c.as_slice.ensures.value (c.follows.ensures.exact.0 c.if-not-follows.false) in
    fails_fresh ls c.args.j l c.in-Some.s c.in-Some-spoilt.c.now c.not_fresh.result c.requires.lines c.requires.within now.cites c.in-Some.is yes
    (subst (λ cs. (StaysArbitrary l.rule (sentences_read ls cs) (subproofs_read ls cs) c.in-Some.s → ⊥) × OneBoxes (subproofs_read ls cs) c.in-Some-spoilt.c.now) c.as_slice-2.ensures.value c.in-Some-spoilt.ensures.exact)
    c.not_fresh.ensures.named
