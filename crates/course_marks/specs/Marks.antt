-- Late days, credits and marks. Moments are in seconds since 1970.
use Rattle.std.specs.Prelude.{ℕ, ◌+◌, ◌-◌, ◌*◌, ◌/◌, ◌^◌, ◌==◌, min, if◌then◌else◌}

-- The greatest due moment.
abbrev pub last_moment : ℕ
last_moment = 253370764800

-- The days from the due moment to the other one, rounded up; none where that isn't later.
abbrev pub late_days : ℕ → ℕ → ℕ
late_days due moment = (moment - due + 86399) / 86400

-- The due moment, and so many days more, as far as 64 bits go.
abbrev pub close_instant : ℕ → ℕ → ℕ
close_instant due close_days = min (due + 86400 * close_days) (2 ^ 64 - 1)

-- The points, less so many hundredths of them for each late day, rounded down, and never less than nothing.
abbrev pub credit : ℕ → ℕ → ℕ → ℕ
credit points percent days = points * (100 - percent * days) / 100

-- A hundred times what was earned by the points, rounded down, at most 100; 0 where there are no points.
abbrev pub course_mark : ℕ → ℕ → ℕ
course_mark earned points = if points == 0 then 0 else min 100 (100 * earned / points)
