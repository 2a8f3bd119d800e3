use Rattle.std.proofs.Common.{true≢false, sym, ◌∙◌, subst, take_all, refl, arith}
use Rattle.boole_table.specs.Asked.{Differ}
use Rattle.boole_table.proofs.Asking.{differ_more}
use Rattle.boole_table.proofs.asked.differ.Goals as goal

pub loop-place-preserved : goal.loop-place-preserved
loop-place-preserved c =
    differ_more c.args.sentences.now c.loop-place.place c.index-sentences-place.result c.loop-place-test.true c.index-sentences-place.is (λ h. true≢false (sym (c.contains.ensures.value.1 h) ∙ c.if-contains.false)) c.loop-place.invariant

pub returns : goal.returns
returns c = (λ h. subst Differ (take_all c.loop-place.place c.args.sentences.now (omega arith)) c.loop-place.invariant, λ h. refl)
