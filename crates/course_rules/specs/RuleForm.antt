-- The form of the rule by which a zone's clock changes each year, as `M10.5.0/3`.
use Rattle.std.specs.Prelude.{ℕ, ◌==◌, ◌&&◌, nat_le, Bool, false, List, [], ◌∷◌, Option, Some, None, option_map, if◌then◌else◌}
use Rattle.std.specs.Char.{is_ascii_digit}
use Rattle.course_rules.specs.Digits.{two_digits, is_at_most}

-- the text before its first such byte and the text behind it, or none where it has no such byte
abbrev pub halves : ℕ → List ℕ → Option (List ℕ × List ℕ)
halves c [] = None
halves c (b ∷ bs) = if b == c then Some ([], bs) else option_map (λ h. (b ∷ h.0, h.1)) (halves c bs)

-- a byte from the first to the last
abbrev pub is_from : ℕ → ℕ → ℕ → Bool
is_from first last b = nat_le first b && nat_le b last

-- one or two digits of hours, up to 24
abbrev pub are_hours : List ℕ → Bool
are_hours [] = false
are_hours (ones ∷ []) = is_ascii_digit ones
are_hours (tens ∷ ones ∷ []) = is_at_most 24 (two_digits tens ones)
are_hours (tens ∷ ones ∷ more ∷ rest) = false

-- two digits of minutes, up to 59
abbrev pub are_minutes : List ℕ → Bool
are_minutes [] = false
are_minutes (tens ∷ []) = false
are_minutes (tens ∷ ones ∷ []) = is_at_most 59 (two_digits tens ones)
are_minutes (tens ∷ ones ∷ more ∷ rest) = false

-- a time of day: hours, and optionally a colon and minutes
abbrev is_time_by : List ℕ → Option (List ℕ × List ℕ) → Bool
is_time_by text None = are_hours text
is_time_by text (Some h) = are_hours h.0 && are_minutes h.1

abbrev pub is_time : List ℕ → Bool
is_time text = is_time_by text (halves 58 text)

-- a month from 1 to 12, without a leading zero
abbrev pub is_month : List ℕ → Bool
is_month [] = false
is_month (ones ∷ []) = is_from 49 57 ones
is_month (tens ∷ ones ∷ []) = tens == 49 && is_from 48 50 ones
is_month (tens ∷ ones ∷ more ∷ rest) = false

-- a week from 1 to 5, a dot, and a weekday from 0 to 6
abbrev pub is_weekday : List ℕ → Bool
is_weekday [] = false
is_weekday (week ∷ []) = false
is_weekday (week ∷ dot ∷ []) = false
is_weekday (week ∷ dot ∷ weekday ∷ []) = is_from 49 53 week && dot == 46 && is_from 48 54 weekday
is_weekday (week ∷ dot ∷ weekday ∷ more ∷ rest) = false

-- the letter `M`, a month, a dot, a week, a dot, and a weekday
abbrev is_date_by : Option (List ℕ × List ℕ) → Bool
is_date_by None = false
is_date_by (Some h) = is_month h.0 && is_weekday h.1

abbrev pub is_day : List ℕ → Bool
is_day [] = false
is_day (letter ∷ date) = letter == 77 && is_date_by (halves 46 date)

-- a rule: a day, and optionally a slash and a time
abbrev is_rule_by : List ℕ → Option (List ℕ × List ℕ) → Bool
is_rule_by text None = is_day text
is_rule_by text (Some h) = is_day h.0 && is_time h.1

abbrev pub is_rule : List ℕ → Bool
is_rule text = is_rule_by text (halves 47 text)
