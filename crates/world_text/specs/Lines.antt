-- The lines of a world text, and the words of a line.
use Rattle.std.specs.Prelude.{ℕ, Bool, false, not, List, [], ◌∷◌, codes, if◌then◌else◌}
use Rattle.std.specs.List.{list_all}
use Rattle.std.specs.Str.{bytes_eq}
use Rattle.texts.specs.Blanks.{is_blank, before_blanks}

-- The line has no byte but blanks.
abbrev pub is_blank_line : List ℕ → Bool
is_blank_line line = list_all is_blank line

-- The line is the header, with blanks behind it or none.
abbrev pub is_header : List ℕ → Bool
is_header line = bytes_eq (before_blanks line) (codes "world 1")

-- The lines behind the first one that isn't blank.
abbrev pub behind_header : List (List ℕ) → List (List ℕ)
behind_header [] = []
behind_header (l ∷ ls) = if is_blank_line l then behind_header ls else ls

-- The byte joined to the first of the words.
abbrev pub joined : ℕ → List (List ℕ) → List (List ℕ)
joined b [] = (b ∷ []) ∷ []
joined b (w ∷ ws) = (b ∷ w) ∷ ws

-- The byte before a text with these words: it joins the word that the text begins with, or is a word of its own.
abbrev pub with_byte : ℕ → List ℕ → List (List ℕ) → List (List ℕ)
with_byte b [] ws = (b ∷ []) ∷ ws
with_byte b (c ∷ cs) ws = if is_blank c then (b ∷ []) ∷ ws else joined b ws

-- The words of a text: its runs of bytes that are no blanks.
abbrev pub words : List ℕ → List (List ℕ)
words [] = []
words (b ∷ bs) = if is_blank b then words bs else with_byte b bs (words bs)

-- The text begins with a blank.
abbrev pub begins_blank : List ℕ → Bool
begins_blank [] = false
begins_blank (b ∷ bs) = is_blank b

-- The text begins with a word at once.
abbrev pub begins_word : List ℕ → Bool
begins_word [] = false
begins_word (b ∷ bs) = not (is_blank b)
