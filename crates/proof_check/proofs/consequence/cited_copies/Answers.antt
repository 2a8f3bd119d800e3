use Rattle.proof_check.proofs.Cited.{one_more_read}
use Rattle.proof_check.proofs.consequence.cited_copies.Goals as goal

pub loop-cite-preserved : goal.loop-cite-preserved
loop-cite-preserved c =
    one_more_read c.args.lines.now c.args.cites.now c.loop-cite.cite-index _ c.loop-cite.copies c.add_cited.new.copies c.loop-cite-test.true c.loop-cite.invariant c.in_ok-add_cited.ensures.added
