-- The instant that jiff's values give: what the code computes before it is compared with the texts.
use Rattle.std.specs.Prelude.{ℕ, ℤ, pos, int_div, Result}
use Rattle.jiff.specs.Types.{DateTime, TimeZone}
use Rattle.jiff.specs.Words.{instant_of, compatible_offset, ambiguous_at}
use Rattle.course_rules.specs.declared.due.DueFault.{DueFault}
use Rattle.course_rules.specs.Due.{within_course}

-- the instant at the zone's offset before a transition, in nanoseconds since 1970
abbrev pub placed_at : TimeZone → DateTime → ℤ
placed_at zone dt = instant_of dt (compatible_offset (ambiguous_at zone dt))

-- the same in whole seconds, if a course can have it
abbrev pub within_course_at : TimeZone → DateTime → Result ℕ DueFault
within_course_at zone dt = within_course (int_div (placed_at zone dt) (pos 1_000_000_000))
