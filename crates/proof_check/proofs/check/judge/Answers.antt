use Rattle.std.proofs.Common.{subst}
use Rattle.proof_check.specs.Judged.{fails_first}
use Rattle.proof_check.specs.Readers.{IsFirstFound}
use Rattle.proof_check.proofs.check.judge.Goals as goal

pub returns-in-Some : goal.returns-in-Some
returns-in-Some c = record {
  judged = λ p o e.
      let found = subst (λ f. IsFirstFound c.args.task.now c.args.lines.now f) c.in-Some.is c.in_ok-found.ensures.first in
      fails_first c.args.task.now p c.in-Some.found.number c.in-Some.found.fault (found p o e);
}
