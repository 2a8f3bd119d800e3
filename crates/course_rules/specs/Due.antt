-- The due instant of a civil time in a zone, in whole seconds since 1970-01-01T00:00 at UTC.
use Rattle.std.specs.Prelude.{ℕ, ℤ, pos, negsuc, ◌+◌, ◌*◌, ◌-ℤ◌, ◌+ℤ◌, ◌*ℤ◌, nat_le, int_lt, not, List, Option, Some, None, Result, Ok, Err, if◌then◌else◌}
use Rattle.jiff_core.specs.Calendar.{days_from_civil}
use Rattle.jiff_core.specs.Timestamp.{nanos_of_seconds}
use Rattle.jiff_tz.specs.PosixText.{TzText, DstText}
use Rattle.jiff_tz.specs.PosixRule.{match_some, rule_day, clamp_to, first_nanosecond, last_nanosecond, nanos_per_day, in_window, in_span, saturating_add, saturating_sub}
use Rattle.jiff_tz.specs.declared.posix.Day.{Day}
use Rattle.course_rules.specs.declared.civil.CivilTime.{CivilTime}
use Rattle.course_rules.specs.declared.due.DueFault.{DueFault}
use Rattle.course_rules.specs.declared.due.DueFault.TheVariants.{ZoneRefused, DateRefused}
use Rattle.course_rules.specs.ZoneForm.{rule_of}
use Rattle.course_rules.specs.CivilText.{civil_of}

-- the nanosecond of the year's wall clock at which a rule's day and time fall, kept within the year
abbrev pub rule_moment : ℤ → Day × ℤ → ℤ
rule_moment y d = match_some (rule_day y d.0) (last_nanosecond y) (λ day.
    clamp_to (first_nanosecond y) (last_nanosecond y) (day *ℤ nanos_per_day +ℤ nanos_of_seconds (d.1 -ℤ pos 0)))

-- how far summer time is ahead of standard time, in nanoseconds
abbrev pub shift : ℤ → ℤ → ℤ
shift standard summer = nanos_of_seconds summer -ℤ nanos_of_seconds standard

-- The offset where the clock goes back in summer. In a fold, an hour that the clock shows twice, it is the one of the earlier
-- instant, which is that before the change; in a gap, an hour that it skips, it is the one before the gap.
abbrev pub offset_behind : ℤ → ℤ → ℤ × ℤ → ℤ → ℤ
offset_behind standard summer w now =
    if in_window w now then summer
    else (if in_span (saturating_add w.0 (shift standard summer)) w.0 now then standard
    else (if in_span w.1 (saturating_sub w.1 (shift standard summer)) now then summer else standard))

-- the same where the clock goes forward in summer
abbrev pub offset_ahead : ℤ → ℤ → ℤ × ℤ → ℤ → ℤ
offset_ahead standard summer w now =
    if not (in_window w now) then standard
    else (if in_span w.0 (saturating_add w.0 (shift standard summer)) now then standard else summer)

-- the offset that holds at a moment of the wall clock, where summer time goes from the first to the second of two moments
abbrev pub offset_in : ℤ → ℤ → ℤ × ℤ → ℤ → ℤ
offset_in standard summer w now =
    if int_lt summer standard then offset_behind standard summer w now
    else (if int_lt standard summer then offset_ahead standard summer w now else standard)

abbrev pub offset_by : ℤ → Option DstText → ℤ → ℤ → ℤ
offset_by standard None y now = standard
offset_by standard (Some d) y now = offset_in standard d.seconds (rule_moment y d.start, rule_moment y d.finish) now

-- the seconds from UTC, in a zone, at a moment of the wall clock in the year
abbrev pub offset_of : TzText → ℤ → ℤ → ℤ
offset_of zone y now = offset_by zone.std_seconds zone.dst y now

-- the seconds of a civil time since 1970-01-01T00:00, on a clock that never changes
abbrev pub civil_seconds : CivilTime → ℤ
civil_seconds c = days_from_civil (pos c.year) c.month c.day *ℤ pos 86_400 +ℤ pos (c.hour * 3600 + c.minute * 60)

-- the instant at which the zone's clock shows the civil time
abbrev pub instant_in : TzText → CivilTime → ℤ
instant_in zone c = civil_seconds c -ℤ offset_of zone (pos c.year) (nanos_of_seconds (civil_seconds c))

-- the greatest due instant, 9999-01-01T00:00 at UTC
abbrev pub latest : ℕ
latest = 253_370_764_800

-- an instant that a course can have
abbrev pub within_course : ℤ → Result ℕ DueFault
within_course (pos n) = if nat_le n latest then Ok n else Err DateRefused
within_course (negsuc n) = Err DateRefused

abbrev pub due_at : TzText → Option CivilTime → Result ℕ DueFault
due_at zone None = Err DateRefused
due_at zone (Some c) = within_course (instant_in zone c)

abbrev pub due_under : Option TzText → Option CivilTime → Result ℕ DueFault
due_under None civil = Err ZoneRefused
due_under (Some zone) civil = due_at zone civil

-- The due instant of the two texts: the zone is refused first, then the date.
abbrev pub due_of : List ℕ → List ℕ → Result ℕ DueFault
due_of zone civil = due_under (rule_of zone) (civil_of civil)
