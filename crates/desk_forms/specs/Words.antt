-- What the words of a course look like.
use Rattle.std.specs.Prelude.{ℕ, Bool, false, not, ◌&&◌, ◌||◌, ◌==◌, nat_le, List, [], ◌∷◌, length}
use Rattle.std.specs.List.{list_all}
use Rattle.std.specs.Str.{is_utf8}

-- The byte is a small letter of ASCII.
abbrev pub small_letter : ℕ → Bool
small_letter b = nat_le 97 b && nat_le b 122

-- The byte is a letter of ASCII.
abbrev pub letter : ℕ → Bool
letter b = (nat_le 65 b && nat_le b 90) || small_letter b

-- The byte is a digit of ASCII.
abbrev pub digit : ℕ → Bool
digit b = nat_le 48 b && nat_le b 57

-- The byte is a letter, a digit, a hyphen or an underscore.
abbrev pub word_byte : ℕ → Bool
word_byte b = letter b || digit b || b == 45 || b == 95

-- The byte is a small letter, a digit or a hyphen.
abbrev pub name_byte : ℕ → Bool
name_byte b = small_letter b || digit b || b == 45

-- The byte is no control byte: neither below 32 nor 127.
abbrev pub printable : ℕ → Bool
printable b = nat_le 32 b && not (b == 127)

-- The number of bytes lies between the two, and each byte is of the kind.
abbrev pub made_of : ℕ → ℕ → (ℕ → Bool) → List ℕ → Bool
made_of least most kind bytes = nat_le least (length bytes) && nat_le (length bytes) most && list_all kind bytes

-- A token is 4 to 64 letters, digits, hyphens and underscores.
abbrev pub token : List ℕ → Bool
token bytes = made_of 4 64 word_byte bytes

-- A key is 1 to 64 letters, digits, hyphens and underscores.
abbrev pub key : List ℕ → Bool
key bytes = made_of 1 64 word_byte bytes

-- An exercise name is 1 to 32 small letters, digits and hyphens.
abbrev pub exercise_name : List ℕ → Bool
exercise_name bytes = made_of 1 32 name_byte bytes

-- A user's name is 1 to 64 bytes of UTF-8 without control bytes.
abbrev pub user_name : List ℕ → Bool
user_name bytes = made_of 1 64 printable bytes && is_utf8 bytes

-- The byte is a letter, a digit or an underscore.
abbrev pub identifier_byte : ℕ → Bool
identifier_byte b = letter b || digit b || b == 95

-- An identifier is a letter, followed by letters, digits and underscores.
abbrev pub identifier : List ℕ → Bool
identifier [] = false
identifier (b ∷ bs) = letter b && list_all identifier_byte bs
