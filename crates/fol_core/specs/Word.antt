-- Words: the identifiers, and what kind of symbol each of them is.
use Rattle.std.specs.Prelude.{ℕ, Bool, false, not, ◌&&◌, ◌||◌, ◌==◌, nat_le, List, [], ◌∷◌, length}
use Rattle.std.specs.List.{list_all}

-- A word is the list of its bytes.
abbrev pub Word : Type 0
Word = List ℕ

-- The byte is a capital letter of ASCII.
abbrev pub is_capital : ℕ → Bool
is_capital b = nat_le 65 b && nat_le b 90

-- The byte is a letter of ASCII.
abbrev pub is_letter : ℕ → Bool
is_letter b = is_capital b || (nat_le 97 b && nat_le b 122)

-- The byte is a digit of ASCII.
abbrev pub is_digit : ℕ → Bool
is_digit b = nat_le 48 b && nat_le b 57

-- The byte may stand in an identifier after its first letter: a letter, a digit or an underscore.
abbrev pub goes_on : ℕ → Bool
goes_on b = is_letter b || is_digit b || b == 95

-- A word is an identifier where it is a letter, followed by letters, digits and underscores.
abbrev pub is_ident : Word → Bool
is_ident [] = false
is_ident (b ∷ bs) = is_letter b && list_all goes_on bs

-- The word is spelled as a variable: one of the letters t to z, followed by four digits at most.
abbrev pub spells_variable : Word → Bool
spells_variable [] = false
spells_variable (b ∷ bs) = nat_le 116 b && nat_le b 122 && list_all is_digit bs && nat_le (length bs) 4

-- The word begins with a capital letter.
abbrev pub begins_with_capital : Word → Bool
begins_with_capital [] = false
begins_with_capital (b ∷ bs) = is_capital b

-- A predicate is an identifier that begins with a capital letter.
unfoldable pub is_predicate : Word → Bool
is_predicate w = is_ident w && begins_with_capital w

-- A variable is one of the letters t to z, followed by four digits at most.
unfoldable pub is_variable : Word → Bool
is_variable w = spells_variable w

-- A name is an identifier that begins with a small letter and is no variable.
unfoldable pub is_name : Word → Bool
is_name w = is_ident w && not (begins_with_capital w) && not (spells_variable w)
