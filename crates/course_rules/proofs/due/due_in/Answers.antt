use Rattle.course_rules.proofs.Offsets.{out_of_course}
use Rattle.course_rules.specs.inside.Placed.{placed_at}
use Rattle.jiff.specs.ZoneView.{plain_zone}
use Rattle.std.proofs.Common.{sym, subst, IsOk}
use Rattle.std.proofs.lemmas.Bool.{false≢true}
use Rattle.course_rules.proofs.due.due_in.Goals as goal

pub returns-in-Err : goal.returns-in-Err
returns-in-Err c = record {
  value = sym (out_of_course (placed_at (plain_zone c.args.zone) c.args.civil)
      (λ held. false≢true (subst IsOk c.in-Err.is (c.to_zoned.ensures.succeeds.1 held))));
}
