-- Answers that want of memory may stand in for.
use Rattle.std.specs.Prelude.{◌≡◌, Result, Ok, Err}
use Rattle.exercise_fields.specs.declared.fault.FieldFault.{FieldFault}
use Rattle.exercise_fields.specs.declared.fault.FieldFault.TheVariants.{Refused, Memory}

-- What refuses is refused so by the definition; want of memory says nothing.
abbrev pub IsFault : {A : Type 0} → Result A FieldFault → Result A FieldFault → Type 0
IsFault defined (Ok value) = Unit {0}
IsFault defined (Err (Refused code field)) = defined ≡ Err (Refused code field)
IsFault defined (Err Memory) = Unit {0}
