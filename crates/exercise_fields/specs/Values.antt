-- The numbers and texts of an exercise.
use Rattle.std.specs.Prelude.{ℕ, ℤ, pos, negsuc, ◌&&◌, nat_le, Bool, List, length, Option, Some, None, option_and_then, Result, Ok, Err, if◌then◌else◌}
use Rattle.toml.specs.Data.{Members, get_member, as_integer, as_str}
use Rattle.exercise_fields.specs.declared.fault.FieldFault.{FieldFault}
use Rattle.exercise_fields.specs.declared.fault.FieldFault.TheVariants.{Refused}
use Rattle.exercise_fields.specs.declared.field.Field.{Field}

-- from the least to the most
abbrev pub is_between : ℕ → ℕ → ℕ → Bool
is_between least most n = nat_le least n && nat_le n most

-- a number that the field may have
abbrev pub within : Field → ℤ → Result ℕ FieldFault
within f (pos n) = if is_between f.least f.most n then Ok n else Err (Refused 3 f.number)
within f (negsuc n) = Err (Refused 3 f.number)

abbrev pub number_by : Field → Option ℤ → Result ℕ FieldFault
number_by f None = Err (Refused 2 f.number)
number_by f (Some n) = within f n

-- the whole number of the field
abbrev pub whole_of : Field → Members → Result ℕ FieldFault
whole_of f table = number_by f (option_and_then as_integer (get_member f.key.now table))

abbrev pub text_by : Field → Option (List ℕ) → Result (List ℕ) FieldFault
text_by f None = Err (Refused 2 f.number)
text_by f (Some t) = if is_between f.least f.most (length t) then Ok t else Err (Refused 3 f.number)

-- the text of the field
abbrev pub text_of : Field → Members → Result (List ℕ) FieldFault
text_of f table = text_by f (option_and_then as_str (get_member f.key.now table))
