-- The search goes back over the sentences that have the digest.
use Rattle.std.proofs.Common.{sym, true≢false, ◌∙◌}
use Rattle.taut_con.proofs.ByDigest.{begun, found, goes_on}
use Rattle.taut_con.proofs.distinct.is_found.Goals as goal

pub loop-number-init : goal.loop-number-init
loop-number-init c = begun c.args.sentences.now c.args.s.now c.args.last c.requires.last

pub returns-then-same : goal.returns-then-same
returns-then-same c = record {
  value = sym (found c.args.sentences.now c.args.s.now c.loop-number.number c.index-sentences-number.result c.loop-number.invariant c.loop-number-test.true c.index-sentences-number.is (c.same.ensures.value.0 c.if-same.true));
}

pub loop-number-smaller : goal.loop-number-smaller
loop-number-smaller c =
    (goes_on c.args.sentences.now c.args.s.now c.args.earlier.now c.loop-number.number c.index-sentences-number.result c.requires.linked c.loop-number.invariant c.loop-number-test.true c.index-sentences-number.is
    (λ e. true≢false (sym (c.same.ensures.value.1 e) ∙ c.if-same.false))).1

pub loop-number-preserved : goal.loop-number-preserved
loop-number-preserved c =
    (goes_on c.args.sentences.now c.args.s.now c.args.earlier.now c.loop-number.number c.index-sentences-number.result c.requires.linked c.loop-number.invariant c.loop-number-test.true c.index-sentences-number.is
    (λ e. true≢false (sym (c.same.ensures.value.1 e) ∙ c.if-same.false))).0
