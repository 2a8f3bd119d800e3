use Rattle.std.proofs.Common.{subst, []}
use Rattle.nested_proofs.specs.Limits.{AreLines}
use Rattle.proof_check.proofs.Soundness.{judged_text, answer_shows, faulty_text, spelled_fit}
use Rattle.proof_check.proofs.check.check_proof.Goals as goal

pub returns-in-Ok-clause-verdict : goal.returns-in-Ok-clause-verdict
returns-in-Ok-clause-verdict c = judged_text c.args.task.now c.args.text.now c.in-Ok.lines c.judge.result (subst AreLines c.lines.view_is c.lines.invariant.0) c.in-Ok.ensures.read c.judge.ensures.judged

pub returns-in-Ok-clause-sound : goal.returns-in-Ok-clause-sound
returns-in-Ok-clause-sound c =
    answer_shows c.args.task.now c.args.text.now c.judge.result
    (judged_text c.args.task.now c.args.text.now c.in-Ok.lines c.judge.result (subst AreLines c.lines.view_is c.lines.invariant.0) c.in-Ok.ensures.read c.judge.ensures.judged)

pub returns-in-Err : goal.returns-in-Err
returns-in-Err c =
    let verdict = faulty_text c.args.task.now c.args.text.now c.in-Err.place c.in-Err.fault c.unreadable.result c.in-Err.ensures.refused c.unreadable.ensures.value in
    record { verdict = verdict; sound = answer_shows c.args.task.now c.args.text.now c.unreadable.result verdict }

pub judge-requires : goal.judge-requires
judge-requires c = record { fit = spelled_fit [] c.in-Ok.ensures.read.rest c.in-Ok.lines c.in-Ok.ensures.read.spell }
