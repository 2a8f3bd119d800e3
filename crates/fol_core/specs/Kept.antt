-- Where the bytes of an identifier lie.
use Rattle.std.specs.Prelude.{ℕ, ◌≤◌, List, take}
use Rattle.fol_core.specs.declared.ident.Place.{Place}
use Rattle.fol_core.specs.declared.ident.Place.TheVariants.{Here, Apart}

-- The bytes that lie there.
abbrev pub bytes_at : Place → List ℕ
bytes_at (Here count bytes) = take count bytes
bytes_at (Apart text) = text.value.items

-- So many bytes have room where they lie.
abbrev pub Fits : Place → Type 0
Fits (Here count bytes) = count ≤ 14
Fits (Apart text) = Unit {0}
