-- A sentence that the cite doesn't state is stated by the later ones, if at all.
use Rattle.rules_prop.proofs.LaterCites.{sentence_on}
use Rattle.rules_prop.proofs.cited.is_cited.Goals as goal

pub loop-cite-preserved : goal.loop-cite-preserved
loop-cite-preserved c =
    let on = sentence_on c.args.lines.now c.args.cites.now c.loop-cite.cite-index _ c.args.s.now c.loop-cite-test.true (λ h. let t = c.states.ensures.exact.1 h in cc) in
    record { on = λ h. on.0 (c.loop-cite.invariant.on h); back = λ h. c.loop-cite.invariant.back (on.1 h) }
