-- Which names a folder can have for its texts.
use Rattle.std.specs.Prelude.{◌==◌, ℕ, List, [], ◌∷◌, Bool, ◌||◌}
use Rattle.std.specs.List.{list_any}
use Rattle.std.specs.Str.{bytes_eq}

-- The name is empty, or it is `.` or `..`.
abbrev pub is_dots : List ℕ → Bool
is_dots name = bytes_eq name [] || (bytes_eq name (46 ∷ []) || bytes_eq name (46 ∷ 46 ∷ []))

-- The name has a slash or a byte 0.
abbrev pub has_bad_byte : List ℕ → Bool
has_bad_byte name = list_any (λ byte. byte == 47 || byte == 0) name

-- No file of a folder has such a name.
abbrev pub names_nothing : List ℕ → Bool
names_nothing name = is_dots name || has_bad_byte name
