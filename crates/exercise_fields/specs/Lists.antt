-- The lists of an exercise: of texts, and of truth values.
use Rattle.std.specs.Prelude.{ℕ, ◌==◌, Bool, List, [], ◌∷◌, length, Option, Some, None, option_map, option_and_then, Result, Ok, Err, if◌then◌else◌}
use Rattle.toml.specs.Data.{Members, Items, no_items, item, get_member, as_array, as_str, as_bool}
use Rattle.exercise_fields.specs.declared.fault.FieldFault.{FieldFault}
use Rattle.exercise_fields.specs.declared.fault.FieldFault.TheVariants.{Refused}
use Rattle.exercise_fields.specs.declared.field.Field.{Field}
use Rattle.exercise_fields.specs.Values.{is_between}

-- the texts that the items are, where each of them is a text
abbrev pub all_texts : Items → Option (List (List ℕ))
all_texts no_items = Some []
all_texts (item d ds) = option_and_then (λ t. option_map (λ ts. t ∷ ts) (all_texts ds)) (as_str d)

-- the truth values that the items are, where each of them is one
abbrev pub all_flags : Items → Option (List Bool)
all_flags no_items = Some []
all_flags (item d ds) = option_and_then (λ b. option_map (λ bs. b ∷ bs) (all_flags ds)) (as_bool d)

abbrev pub any_texts_by : Field → Option (List (List ℕ)) → Result (List (List ℕ)) FieldFault
any_texts_by f None = Err (Refused 2 f.number)
any_texts_by f (Some ts) = Ok ts

-- the texts of the field, however many there are
abbrev pub any_texts_of : Field → Members → Result (List (List ℕ)) FieldFault
any_texts_of f table = any_texts_by f (option_and_then all_texts (option_and_then as_array (get_member f.key.now table)))

abbrev pub as_many : Field → Result (List (List ℕ)) FieldFault → Result (List (List ℕ)) FieldFault
as_many f (Err fault) = Err fault
as_many f (Ok ts) = if is_between f.least f.most (length ts) then Ok ts else Err (Refused 3 f.number)

-- the texts of the field, of which there are as many as it may have
abbrev pub texts_of : Field → Members → Result (List (List ℕ)) FieldFault
texts_of f table = as_many f (any_texts_of f table)

abbrev pub flags_by : Field → ℕ → Option (List Bool) → Result (List Bool) FieldFault
flags_by f n None = Err (Refused 2 f.number)
flags_by f n (Some bs) = if length bs == n then Ok bs else Err (Refused 3 f.number)

-- the truth values of the field, which should be so many
abbrev pub flags_of : Field → ℕ → Members → Result (List Bool) FieldFault
flags_of f n table = flags_by f n (option_and_then all_flags (option_and_then as_array (get_member f.key.now table)))
