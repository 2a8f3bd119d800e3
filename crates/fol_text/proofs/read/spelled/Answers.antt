-- Each token that is taken leads on; one that is refused, and the end, are the first refusal.
use Rattle.std.proofs.Common.{arith}
use Rattle.std.proofs.lemmas.Result.{err_from_is_err_and}
use Rattle.fol_text.proofs.Reading.{leads_past, turn_stops, end_reads, end_stops}
use Rattle.fol_text.proofs.read.spelled.Goals as goal

pub returns-in_err-turn-clause-fault : goal.returns-in_err-turn-clause-fault
returns-in_err-turn-clause-fault c =
    let p = err_from_is_err_and c.from_residual.result c.from_residual.ensures.1 in
    rw (p.1, p.2)
    (turn_stops c.args.end c.args.tokens.now c.loop-placed.placed-index c.placed-item.result c.loop-placed.state c.in_err-turn.field-0.0 (omega arith) c.placed-item.is c.loop-placed.invariant c.in_err-turn.ensures.value)

pub loop-placed-preserved : goal.loop-placed-preserved
loop-placed-preserved c =
    leads_past c.args.tokens.now c.loop-placed.placed-index c.placed-item.result c.loop-placed.state c.turn.new.state (omega arith) c.placed-item.is c.loop-placed.invariant c.in_ok-turn.ensures.value

pub returns-clause-read : goal.returns-clause-read
returns-clause-read c = end_reads c.args.end c.args.tokens.now c.loop-placed.placed-index c.loop-placed.state c.ended.result (omega arith) c.loop-placed.invariant c.ended.ensures.value

pub returns-clause-fault : goal.returns-clause-fault
returns-clause-fault c = end_stops c.args.end c.args.tokens.now c.loop-placed.placed-index c.loop-placed.state c.ended.result (omega arith) c.loop-placed.invariant c.ended.ensures.value
