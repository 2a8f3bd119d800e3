use Rattle.course_rules.proofs.Calendars.{no_such}
use Rattle.course_rules.proofs.civil.on_calendar.Goals as goal

pub returns-in-Err : goal.returns-in-Err
returns-in-Err c = record { value = no_such c.args.numbers c.requires.small _ _ _ _ _ c.signed_year.ensures.value c.signed.ensures.value c.signed-2.ensures.value c.signed-3.ensures.value c.signed-4.ensures.value c.in-Err.ensures.succeeds.1 }
