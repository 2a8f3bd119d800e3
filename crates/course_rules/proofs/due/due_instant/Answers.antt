use Rattle.std.proofs.Common.{◌≡◌, ◌∙◌, ℕ, List, ap}
use Rattle.jiff.specs.ZoneView.{plain_zone}
use Rattle.course_rules.specs.ZoneForm.{rule_of}
use Rattle.course_rules.specs.CivilText.{civil_of}
use Rattle.course_rules.specs.Due.{due_of}
use Rattle.course_rules.proofs.Instants.{due_matches, no_date}
use Rattle.course_rules.proofs.due.due_instant.Goals as goal

same_texts : (zone civil z c : List ℕ) → z ≡ zone → c ≡ civil → due_of z c ≡ due_of zone civil
same_texts zone civil z c e f = ap (λ t. due_of t c) e ∙ ap (due_of zone) f

pub returns-in-Some-civil_time : goal.returns-in-Some-civil_time
returns-in-Some-civil_time c =
    let zone = c.as_slice.result.now in
    let civil = c.as_slice-2.result.now in
    record {
      value = c.due_in.ensures.value
          ∙ due_matches (rule_of zone) (civil_of civil) (plain_zone c.in-Some.zone) c.in-Some-civil_time.civil c.in-Some.ensures.value c.in-Some-civil_time.ensures.value
          ∙ same_texts c.args.zone.now c.args.civil.now zone civil c.as_slice.ensures.value c.as_slice-2.ensures.value;
    }

pub returns-in-None : goal.returns-in-None
returns-in-None c =
    let zone = c.as_slice.result.now in
    let civil = c.as_slice-2.result.now in
    record {
      value = no_date (rule_of zone) (civil_of civil) (plain_zone c.in-Some.zone) c.in-Some.ensures.value c.in-None.ensures.value
          ∙ same_texts c.args.zone.now c.args.civil.now zone civil c.as_slice.ensures.value c.as_slice-2.ensures.value;
    }
