-- The kinds of exercises.
use Rattle.std.specs.Prelude.{ℕ, List, Option, Some, None, option_and_then, Result, Ok, Err, codes, if◌then◌else◌}
use Rattle.std.specs.Str.{bytes_eq}
use Rattle.toml.specs.Data.{Members, get_member, as_str}
use Rattle.exercise_fields.specs.declared.fault.FieldFault.{FieldFault}
use Rattle.exercise_fields.specs.declared.fault.FieldFault.TheVariants.{Refused}
use Rattle.exercise_fields.specs.declared.kind.Kind.{Kind}
use Rattle.exercise_fields.specs.declared.kind.Kind.TheVariants.{Proof, Argument, World, Sentences, Table}

-- the kind of this name
abbrev pub kind_named : List ℕ → Option Kind
kind_named w =
    if bytes_eq w (codes "proof") then Some Proof
    else (if bytes_eq w (codes "argument") then Some Argument
    else (if bytes_eq w (codes "world") then Some World
    else (if bytes_eq w (codes "sentences") then Some Sentences
    else (if bytes_eq w (codes "table") then Some Table else None))))

abbrev pub kind_by : Option Kind → Result Kind FieldFault
kind_by None = Err (Refused 2 1)
kind_by (Some k) = Ok k

-- the kind of the exercise
abbrev pub kind_of : Members → Result Kind FieldFault
kind_of table = kind_by (option_and_then kind_named (option_and_then as_str (get_member (codes "kind") table)))
