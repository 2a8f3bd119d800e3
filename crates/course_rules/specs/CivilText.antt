-- The date and time of day that a text `YYYY-MM-DDTHH:MM` says.
use Rattle.std.specs.Prelude.{◌≡◌, ℕ, pos, ◌+◌, ◌*◌, ◌==◌, ◌&&◌, ◌<◌, nat_le, Bool, List, length, slice_index, Option, Some, None, option_and_then, if◌then◌else◌}
use Rattle.jiff_core.specs.Calendar.{days_in_month}
use Rattle.jiff.specs.Types.{DateTime}
use Rattle.course_rules.specs.Digits.{two_digits}
use Rattle.course_rules.specs.declared.civil.CivilTime.{CivilTime}

-- 16 bytes, with the signs at their places
abbrev pub is_punctuated : List ℕ → Bool
is_punctuated text =
    length text == 16 && slice_index text 4 == 45 && slice_index text 7 == 45 && slice_index text 10 == 84 && slice_index text 13 == 58

-- the number that the digits at this place and the next one write
abbrev pub number_at : List ℕ → ℕ → Option ℕ
number_at text at = two_digits (slice_index text at) (slice_index text (at + 1))

-- the numbers of the year's century, the year in it, month, day, hour and minute
abbrev pub numbers_of : List ℕ → Option CivilTime
numbers_of text =
    option_and_then (λ century. option_and_then (λ year. option_and_then (λ month. option_and_then (λ day. option_and_then (λ hour. option_and_then (λ minute.
    Some (record { year = century * 100 + year; month = month; day = day; hour = hour; minute = minute }))
    (number_at text 14)) (number_at text 11)) (number_at text 8)) (number_at text 5)) (number_at text 2)) (number_at text 0)

-- a year of four digits, and two digits each
pub record IsSmall (c : CivilTime) : Type 0 where
  pub year : c.year < 10_000
  pub month : c.month < 100
  pub day : c.day < 100
  pub hour : c.hour < 100
  pub minute : c.minute < 100

-- the calendar has the date, and a clock the time
abbrev pub is_real : CivilTime → Bool
is_real c =
    nat_le 1 c.month && nat_le c.month 12 && nat_le 1 c.day && nat_le c.day (days_in_month (pos c.year) c.month)
    && nat_le c.hour 23 && nat_le c.minute 59

abbrev pub real : CivilTime → Option CivilTime
real c = if is_real c then Some c else None

-- the date and time that the text says, or none where it is of another form or there is no such date or time
abbrev pub civil_of : List ℕ → Option CivilTime
civil_of text = if is_punctuated text then option_and_then real (numbers_of text) else None

-- jiff's value is this date and time, at the minute's first instant
pub record IsThis (c : CivilTime) (dt : DateTime) : Type 0 where
  pub year : dt.date.year ≡ pos c.year
  pub month : dt.date.month ≡ c.month
  pub day : dt.date.day ≡ c.day
  pub hour : dt.time.hour ≡ c.hour
  pub minute : dt.time.minute ≡ c.minute
  pub second : dt.time.second ≡ 0
  pub subsecond : dt.time.subsec_nanosecond ≡ 0

-- there is a value where there is a date and time, and it is that
abbrev pub Shows : Option CivilTime → Option DateTime → Type 0
Shows None None = Unit {0}
Shows None (Some dt) = ⊥
Shows (Some c) None = ⊥
Shows (Some c) (Some dt) = IsThis c dt
