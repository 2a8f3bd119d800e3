-- The TOML document that the text of an exercise is.
use Rattle.std.specs.Prelude.{◌≡◌, ℕ, ◌&&◌, nat_le, List, length, Option, None, if◌then◌else◌}
use Rattle.std.specs.Str.{is_utf8}
use Rattle.toml.specs.Data.{Members}
use Rattle.toml.specs.Parse.{parse_document}
use Rattle.exercise_fields.specs.declared.fault.FieldFault.{FieldFault}
use Rattle.exercise_fields.specs.declared.fault.FieldFault.TheVariants.{Refused, Memory}

-- What the text writes in TOML, where it has at most 65,536 bytes and is UTF-8.
abbrev pub document_of : List ℕ → Option Members
document_of text = if nat_le (length text) 65_536 && is_utf8 text then parse_document text else None

-- The refusal of a text that is no document: it is about the text as a whole. Want of memory says nothing of the text.
abbrev pub IsNoDocument : Option Members → FieldFault → Type 0
IsNoDocument document (Refused code field) = (document ≡ None) × (code ≡ 1) × (field ≡ 0)
IsNoDocument document Memory = Unit {0}
