use Rattle.course_rules.proofs.Ascii.{zone_is_utf8}
use Rattle.std.proofs.Common.{◌≡◌, ℕ, Bool, true, false, List, Option, None, cond, refl}
use Rattle.jiff_tz.specs.PosixText.{TzText}
use Rattle.jiff_tz.specs.PosixReader.{read_whole}
use Rattle.course_rules.specs.ZoneForm.{is_zone, rule_of}
use Rattle.course_rules.proofs.zone.zone_of.Goals as goal

ruled_out_by : (b : Bool) (o : Option TzText) → (b ≡ true → ⊥) → cond b o None ≡ None
ruled_out_by true o h = absurd (h refl)
ruled_out_by false o h = refl

ruled_out : (text : List ℕ) → (is_zone text ≡ true → ⊥) → rule_of text ≡ None
ruled_out text h = ruled_out_by (is_zone text) (read_whole text) h

pub returns-in_default : goal.returns-in_default
returns-in_default c = record { value = ruled_out c.args.text.now (λ h. c.in_default.ensures.cases.0 (zone_is_utf8 c.args.text.now h)) }
