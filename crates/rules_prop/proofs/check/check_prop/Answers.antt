-- What is read off the lines is what the line's cites find in its proof.
use Rattle.std.proofs.Common.{◌≡◌, sym, subst, length, true}
use Rattle.std.specs.List.{AllByRecursion}
use Rattle.nested_proofs.specs.CiteTests.{counts_fit}
use Rattle.nested_proofs.specs.ReadOff.{IsWithin, sentences_read, subproofs_read}
use Rattle.nested_proofs.specs.Rules.{Follows}
use Rattle.nested_proofs.proofs.Reading.{line_at}
use Rattle.nested_proofs.proofs.AtStep.{IsReady, ready, follows_at, not_at}
use Rattle.rules_prop.proofs.Counting.{inferred}
use Rattle.rules_prop.specs.Propositional.{is_propositional}
use Rattle.rules_prop.proofs.check.check_prop.Goals as goal

pub returns-in_default-clause-err : goal.returns-in_default-clause-err
returns-in_default-clause-err c =
    let ls = c.args.lines.now in
    let l = c.index-lines-j.result in
    let now : IsReady is_propositional ls c.args.j l = ready is_propositional inferred ls c.args.j l c.requires.lines c.requires.first c.requires.within (line_at ls c.args.j l c.requires.first c.requires.within c.index-lines-j.is) c.requires.rule c.requires.cites in
    not_at ls c.args.j l c.requires.lines c.requires.within now.cites (λ s e f. c.in_default.not-Some s e)

pub follows-requires-clause-rule : goal.follows-requires-clause-rule
follows-requires-clause-rule c =
    let ls = c.args.lines.now in
    let l = c.index-lines-j.result in
    (ready is_propositional inferred ls c.args.j l c.requires.lines c.requires.first c.requires.within (line_at ls c.args.j l c.requires.first c.requires.within c.index-lines-j.is) c.requires.rule c.requires.cites).rule

pub follows-requires-clause-counts : goal.follows-requires-clause-counts
follows-requires-clause-counts c =
    let ls = c.args.lines.now in
    let l = c.index-lines-j.result in
    let now : IsReady is_propositional ls c.args.j l = ready is_propositional inferred ls c.args.j l c.requires.lines c.requires.first c.requires.within (line_at ls c.args.j l c.requires.first c.requires.within c.index-lines-j.is) c.requires.rule c.requires.cites in
    subst (λ cs. counts_fit l.rule cs ≡ true) (sym c.as_slice.ensures.value) now.cites.counts

pub follows-requires-clause-within : goal.follows-requires-clause-within
follows-requires-clause-within c =
    let ls = c.args.lines.now in
    let l = c.index-lines-j.result in
    let now : IsReady is_propositional ls c.args.j l = ready is_propositional inferred ls c.args.j l c.requires.lines c.requires.first c.requires.within (line_at ls c.args.j l c.requires.first c.requires.within c.index-lines-j.is) c.requires.rule c.requires.cites in
    subst (AllByRecursion (IsWithin (length ls))) (sym c.as_slice.ensures.value) now.cites.within

pub returns-then-follows-clause-ok : goal.returns-then-follows-clause-ok
returns-then-follows-clause-ok c =
    let ls = c.args.lines.now in
    let l = c.index-lines-j.result in
    let now : IsReady is_propositional ls c.args.j l = ready is_propositional inferred ls c.args.j l c.requires.lines c.requires.first c.requires.within (line_at ls c.args.j l c.requires.first c.requires.within c.index-lines-j.is) c.requires.rule c.requires.cites in
    follows_at ls c.args.j l c.in-Some.s c.requires.lines c.requires.within now.cites c.in-Some.is
    (subst (λ cs. Follows l.rule (sentences_read ls cs) (subproofs_read ls cs) c.in-Some.s) c.as_slice.ensures.value (c.follows.ensures.exact.0 c.if-follows.true))

pub returns-else-follows-clause-err : goal.returns-else-follows-clause-err
returns-else-follows-clause-err c =
    let ls = c.args.lines.now in
    let l = c.index-lines-j.result in
    let now : IsReady is_propositional ls c.args.j l = ready is_propositional inferred ls c.args.j l c.requires.lines c.requires.first c.requires.within (line_at ls c.args.j l c.requires.first c.requires.within c.index-lines-j.is) c.requires.rule c.requires.cites in
    not_at ls c.args.j l c.requires.lines c.requires.within now.cites (λ s e f.
    let q : s ≡ c.in-Some.s = cc in
    let t = c.follows.ensures.exact.1 (subst (λ cs. Follows l.rule (sentences_read ls cs) (subproofs_read ls cs) c.in-Some.s) (sym c.as_slice.ensures.value) (subst (λ x. Follows l.rule (sentences_read ls l.cites) (subproofs_read ls l.cites) x) q f)) in
    cc)
