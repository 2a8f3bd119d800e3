use Rattle.taut_con.proofs.Gathering.{each_more}
use Rattle.taut_con.proofs.letters.+gather.Goals as goal

pub gather_all-loop-s-preserved : goal.gather_all-loop-s-preserved
gather_all-loop-s-preserved t c =
    each_more c.args.found c.args.sentences.now c.loop-s.s-index c.s-item.result c.loop-s.all c.in_ok-all.all c.loop-s-test.true c.s-item.is c.loop-s.invariant c.in_ok-all.ensures.gathered
