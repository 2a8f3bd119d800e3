-- The instant that jiff gives is that of the texts.
use Rattle.std.proofs.Common.{◌≡◌, ℕ, ◌*◌, ◌+◌, ℤ, pos, ◌-ℤ◌, ◌+ℤ◌, ◌*ℤ◌, ap, sym, ◌∙◌, arith, Option, Some, None, Err}
use Rattle.std.specs.Prelude.{int_div}
use Rattle.jiff.specs.Types.{DateTime, TimeZone, Posix, UTC, Unknown, Fixed, Tzif}
use Rattle.jiff.specs.Words.{compatible_offset, ambiguous_at}
use Rattle.jiff_core.specs.DateTime.{civil_nanos}
use Rattle.jiff_core.specs.Calendar.{days_from_civil}
use Rattle.jiff_core.specs.Timestamp.{nanos_of_seconds}
use Rattle.jiff_core.proofs.SignedLemmas.{signed_arith}
use Rattle.jiff_tz.specs.PosixText.{TzText, tz_view}
use Rattle.course_rules.specs.declared.civil.CivilTime.{CivilTime}
use Rattle.course_rules.specs.declared.due.DueFault.TheVariants.{DateRefused}
use Rattle.course_rules.specs.CivilText.{IsThis, Shows}
use Rattle.course_rules.specs.ZoneForm.{IsZoneOf}
use Rattle.course_rules.specs.Due.{civil_seconds, instant_in, offset_of, within_course, due_under}
use Rattle.course_rules.specs.inside.Placed.{within_course_at}
use Rattle.course_rules.proofs.Offsets.{offset_matches}

apart : (a o : ℤ) → int_div (nanos_of_seconds a -ℤ nanos_of_seconds o) (pos 1_000_000_000) ≡ a -ℤ o
apart a o = omega (arith, signed_arith)

scaled : (d : ℤ) (h n : ℕ) → d *ℤ pos 86_400_000_000_000 +ℤ pos ((h * 3600 + n * 60 + 0) * 1_000_000_000 + 0) ≡ nanos_of_seconds (d *ℤ pos 86_400 +ℤ pos (h * 3600 + n * 60))
scaled d h n = omega (arith, signed_arith)

pub same_clock : (c : CivilTime) (dt : DateTime) → IsThis c dt → civil_nanos dt ≡ nanos_of_seconds (civil_seconds c)
unfolding civil_nanos
same_clock c dt h =
    rw (h.year, h.month, h.day, h.hour, h.minute, h.second, h.subsecond) (scaled (days_from_civil (pos c.year) c.month c.day) c.hour c.minute)

instants_match : (z : TzText) (c : CivilTime) (dt : DateTime) (o : ℤ) → IsThis c dt → o ≡ offset_of z dt.date.year (civil_nanos dt)
    → int_div (civil_nanos dt -ℤ nanos_of_seconds o) (pos 1_000_000_000) ≡ instant_in z c
instants_match z c dt o h e =
    let clock = same_clock c dt h in
    let offset : o ≡ offset_of z (pos c.year) (nanos_of_seconds (civil_seconds c)) = e ∙ ap (λ y. offset_of z y (civil_nanos dt)) h.year ∙ ap (offset_of z (pos c.year)) clock in
    ap (λ n. int_div (n -ℤ nanos_of_seconds o) (pos 1_000_000_000)) clock ∙ apart (civil_seconds c) o ∙ ap (λ s. civil_seconds c -ℤ s) offset

pub due_matches : (z : Option TzText) (c : Option CivilTime) (tz : TimeZone) (dt : DateTime) → IsZoneOf z tz → Shows c (Some dt) → within_course_at tz dt ≡ due_under z c
due_matches z None (Posix r) dt h k = absurd k
due_matches z (Some c) (Posix r) dt h k =
    ap within_course (instants_match (tz_view r) c dt (compatible_offset (ambiguous_at (Posix r) dt)).seconds k (offset_matches r dt)) ∙ sym (ap (λ y. due_under y (Some c)) h)
due_matches z c UTC dt h k = absurd h
due_matches z c Unknown dt h k = absurd h
due_matches z c (Fixed o) dt h k = absurd h
due_matches z c (Tzif t) dt h k = absurd h

pub no_date : (z : Option TzText) (c : Option CivilTime) (tz : TimeZone) → IsZoneOf z tz → Shows c None → Err DateRefused ≡ due_under z c
no_date z (Some c) (Posix r) h k = absurd k
no_date z None (Posix r) h k = sym (ap (λ y. due_under y None) h)
no_date z c UTC h k = absurd h
no_date z c Unknown h k = absurd h
no_date z c (Fixed o) h k = absurd h
no_date z c (Tzif t) h k = absurd h
