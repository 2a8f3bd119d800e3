-- The form of the text that says what a course's zone is, as `CET-1CEST,M3.5.0,M10.5.0/3`.
use Rattle.std.specs.Prelude.{◌≡◌, ℕ, ◌==◌, ◌&&◌, ◌||◌, nat_le, Bool, true, false, List, [], ◌∷◌, take, drop, length, Option, Some, None, option_and_then, if◌then◌else◌}
use Rattle.std.specs.List.{list_all, prefix_len}
use Rattle.std.specs.Char.{is_ascii, is_ascii_alphabetic, is_ascii_alphanumeric}
use Rattle.jiff.specs.Types.{TimeZone, Posix, UTC, Unknown, Fixed, Tzif}
use Rattle.jiff_tz.specs.PosixText.{TzText, tz_view}
use Rattle.jiff_tz.specs.PosixReader.{read_whole}
use Rattle.course_rules.specs.RuleForm.{halves, is_from, is_time, is_rule}

-- three to six
abbrev pub is_name_length : ℕ → Bool
is_name_length n = nat_le 3 n && nat_le n 6

-- how many letters the text begins with
abbrev pub count_letters : List ℕ → ℕ
count_letters text = prefix_len is_ascii_alphabetic text

-- a letter, a digit, a plus or a minus
abbrev pub is_of_bracketed : ℕ → Bool
is_of_bracketed b = is_ascii_alphanumeric b || b == 43 || b == 45

-- three to six letters, digits and signs
abbrev pub is_bracketed : List ℕ → Bool
is_bracketed text = is_name_length (length text) && list_all is_of_bracketed text

-- what stands behind the closing bracket, where a name's letters, digits and signs stand before it
abbrev after_bracketed_by : Option (List ℕ × List ℕ) → Option (List ℕ)
after_bracketed_by None = None
after_bracketed_by (Some h) = if is_bracketed h.0 then Some h.1 else None

abbrev pub after_bracketed : List ℕ → Option (List ℕ)
after_bracketed text = after_bracketed_by (halves 62 text)

-- what stands behind the letters that the text begins with, where they are three to six
abbrev pub after_letters : List ℕ → Option (List ℕ)
after_letters text = if is_name_length (count_letters text) then Some (drop (count_letters text) text) else None

-- What stands behind the name that the text begins with, or none where it begins with none: all letters that it begins with,
-- which are three to six, or three to six letters, digits and signs between angle brackets.
abbrev pub after_name : List ℕ → Option (List ℕ)
after_name [] = None
after_name (b ∷ bs) = if b == 60 then after_bracketed bs else after_letters (b ∷ bs)

-- a digit, a sign or a colon
abbrev pub is_of_offset : ℕ → Bool
is_of_offset b = is_from 48 57 b || b == 43 || b == 45 || b == 58

-- how many digits, signs and colons the text begins with
abbrev pub count_of_offset : List ℕ → ℕ
count_of_offset text = prefix_len is_of_offset text

-- an offset: a time, before which a plus or a minus may stand
abbrev pub is_offset : List ℕ → Bool
is_offset [] = false
is_offset (b ∷ bs) = if b == 43 || b == 45 then is_time bs else is_time (b ∷ bs)

-- What stands behind the offset that the text begins with, or none where it begins with none: an offset ends at the first byte
-- that is no digit, sign or colon.
abbrev pub after_offset : List ℕ → Option (List ℕ)
after_offset text = if is_offset (take (count_of_offset text) text) then Some (drop (count_of_offset text) text) else None

-- what stands behind a name and an offset
abbrev pub after_standard : List ℕ → Option (List ℕ)
after_standard text = option_and_then after_offset (after_name text)

-- there is a text, and it is empty
abbrev is_at_end : Option (List ℕ) → Bool
is_at_end None = false
is_at_end (Some []) = true
is_at_end (Some (b ∷ bs)) = false

-- there is a text, and it is empty or an offset
abbrev is_offset_or_end : Option (List ℕ) → Bool
is_offset_or_end None = false
is_offset_or_end (Some []) = true
is_offset_or_end (Some (b ∷ bs)) = is_offset (b ∷ bs)

-- a name and an offset
abbrev pub is_fixed : List ℕ → Bool
is_fixed text = is_at_end (after_standard text)

-- a name and an offset, a second name, and optionally a second offset
abbrev pub names_summer : List ℕ → Bool
names_summer text = is_offset_or_end (option_and_then after_name (after_standard text))

-- two rules with a comma between them
abbrev are_rules_by : Option (List ℕ × List ℕ) → Bool
are_rules_by None = false
are_rules_by (Some h) = is_rule h.0 && is_rule h.1

abbrev pub are_rules : List ℕ → Bool
are_rules text = are_rules_by (halves 44 text)

-- a name and an offset alone, or with a second name, an optional second offset, a comma, and two rules
abbrev has_parts_by : List ℕ → Option (List ℕ × List ℕ) → Bool
has_parts_by text None = is_fixed text
has_parts_by text (Some h) = names_summer h.0 && are_rules h.1

abbrev pub has_parts : List ℕ → Bool
has_parts text = has_parts_by text (halves 44 text)

-- each byte is of ASCII
abbrev pub is_ascii_text : List ℕ → Bool
is_ascii_text text = list_all is_ascii text

-- a text of ASCII with these parts
abbrev pub is_zone : List ℕ → Bool
is_zone text = is_ascii_text text && has_parts text

-- what a zone's text says: none where it is not of the form, or jiff can't read it
abbrev pub rule_of : List ℕ → Option TzText
rule_of text = if is_zone text then read_whole text else None

-- the zone is that of the rule
abbrev pub IsZoneOf : Option TzText → TimeZone → Type 0
IsZoneOf r (Posix rule) = r ≡ Some (tz_view rule)
IsZoneOf r UTC = ⊥
IsZoneOf r Unknown = ⊥
IsZoneOf r (Fixed o) = ⊥
IsZoneOf r (Tzif t) = ⊥
