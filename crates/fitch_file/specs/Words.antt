-- The words of a line, with blanks between them.
use Rattle.std.specs.Prelude.{ℕ, Bool, true, List, [], ◌∷◌, codes, if◌then◌else◌}
use Rattle.std.specs.Str.{bytes_eq}
use Rattle.texts.specs.Blanks.{is_blank, after_blanks}

-- The bytes up to the first blank.
abbrev pub before_blank : List ℕ → List ℕ
before_blank [] = []
before_blank (b ∷ bs) = if is_blank b then [] else b ∷ before_blank bs

-- The text from its first blank on.
abbrev pub from_blank : List ℕ → List ℕ
from_blank [] = []
from_blank (b ∷ bs) = if is_blank b then b ∷ bs else from_blank bs

-- The first word of a text, which has no byte where the text is blank, and what follows it.
abbrev pub first_word : List ℕ → List ℕ
first_word text = before_blank (after_blanks text)

abbrev pub behind_word : List ℕ → List ℕ
behind_word text = from_blank (after_blanks text)

-- The text is over, or a blank is next.
abbrev pub ends_word : List ℕ → Bool
ends_word [] = true
ends_word (b ∷ bs) = is_blank b

-- The first word of the line is `proof`.
abbrev pub begins_proof : List ℕ → Bool
begins_proof line = bytes_eq (first_word line) (codes "proof")
