-- Which settings and grades may be kept.
use Rattle.std.specs.Prelude.{ℕ, Bool, true, ◌&&◌, ◌||◌, ◌==◌, nat_le, List, [], length, if◌then◌else◌}
use Rattle.std.specs.Str.{bytes_eq, is_utf8}
use Rattle.course_marks.specs.Marks.{last_moment}
use Rattle.desk_forms.specs.Words.{identifier}
use Rattle.desk_keeper.specs.declared.rows.Grade.{Grade}
use Rattle.desk_keeper.specs.declared.rows.Settings.{Settings}

-- The number lies between the two.
abbrev pub lies : ℕ → ℕ → ℕ → Bool
lies least most n = nat_le least n && nat_le n most

-- The settings are in their ranges, and the prompt is a text of at most 4,000 bytes.
abbrev pub allowed_settings : Settings → Bool
allowed_settings s = nat_le s.points 1000 && nat_le s.percent 100 && nat_le s.due last_moment && nat_le s.close_days 365
    && lies 1 1000 s.attempts && nat_le (length s.prompt) 4000 && is_utf8 s.prompt

-- A code of a proof: correct, a line that is wrong, a file that is unreadable.
abbrev pub proof_code : ℕ → Bool
proof_code code = code == 0 || lies 101 107 code || lies 110 116 code || lies 201 207 code

-- A code of a world, or of an argument judged by a world.
abbrev pub world_code : ℕ → Bool
world_code code = lies 301 305 code || lies 310 313 code || lies 320 324 code

-- A code of a list of sentences.
abbrev pub list_code : ℕ → Bool
list_code code = lies 401 404 code || lies 411 413 code

-- A code of a table.
abbrev pub table_code : ℕ → Bool
table_code code = lies 501 505 code || lies 511 514 code

-- A grade has one of these codes; 600 is a file that is neither proof nor world, 900 a text that is no exercise.
abbrev pub grade_code : ℕ → Bool
grade_code code = proof_code code || world_code code || list_code code || table_code code || code == 600 || code == 900

-- The note is the name that code 107 speaks of, and else empty.
abbrev pub allowed_note : ℕ → List ℕ → Bool
allowed_note code note = if code == 107 then identifier note else bytes_eq note []

-- For the codes 204 and 402 the second number is that of one of the eight faults of a sentence.
abbrev pub allowed_fault : ℕ → ℕ → Bool
allowed_fault code b = if code == 204 || code == 402 then lies 1 8 b else true

-- The code, the note and the second number fit.
abbrev pub allowed_grade : Grade → Bool
allowed_grade g = grade_code g.code && allowed_note g.code g.note && allowed_fault g.code g.b
