use Rattle.std.proofs.Common.{sym, rules, ap, ◌∙◌}
use Rattle.fol_core.specs.Alike.{repl_term, repl_inside}
use Rattle.std.specs.Prelude.{◌||◌}
use Rattle.fol_core.proofs.Replacing.{pairs_more, pairs_fail}
use Rattle.fol_core.proofs.TermEquality.{repl_term_is}
use Rattle.fol_core.proofs.replacement.+replaces_term.Goals as goal

pub replaces_terms-returns-then-not-replaces_term : goal.replaces_terms-returns-then-not-replaces_term
replaces_terms-returns-then-not-replaces_term t c = record { value = sym (pairs_fail (repl_term c.args.n.now c.args.m.now) _ _ _ _ _ c.loop-i-test.true c.loop-i.invariant.long c.index-a-i.is c.index-b-i.is (search rules)) }

pub replaces_terms-loop-i-preserved : goal.replaces_terms-loop-i-preserved
replaces_terms-loop-i-preserved t c = record { long = c.loop-i.invariant.long; begun = pairs_more (repl_term c.args.n.now c.args.m.now) _ _ _ _ _ c.loop-i-test.true c.loop-i.invariant.long c.index-a-i.is c.index-b-i.is c.loop-i.invariant.begun (search rules) }

pub replaces_term-returns-then-are_these : goal.replaces_term-returns-then-are_these
replaces_term-returns-then-are_these t c =
    let n = c.args.n.now in let m = c.args.m.now in let a = c.args.a.now in let b = c.args.b.now in
    record { value = c.if-are_these.true ∙ sym (repl_term_is n m a b ∙ ap (λ d. d || repl_inside n m a b) (sym c.are_these.ensures.value ∙ c.if-are_these.true)) }

pub replaces_term-returns-else-are_these : goal.replaces_term-returns-else-are_these
replaces_term-returns-else-are_these t c =
    let n = c.args.n.now in let m = c.args.m.now in let a = c.args.a.now in let b = c.args.b.now in
    record { value = c.replaces_inside.ensures.value ∙ sym (repl_term_is n m a b ∙ ap (λ d. d || repl_inside n m a b) (sym c.are_these.ensures.value ∙ c.if-are_these.false)) }
