-- The box of a line: a name in brackets, without a blank.
use Rattle.std.specs.Prelude.{◌≡◌, ℕ, true, List, ◌∷◌, ◌++◌, Option, Some, None}
use Rattle.fol_core.specs.Word.{Word, is_name}

-- The text is the box of the name, and the rest.
pub record BeginsBox (text : List ℕ) (name : Word) (rest : List ℕ) : Type 0 where
  pub begins : text ≡ 91 ∷ name ++ 93 ∷ rest
  pub named : is_name name ≡ true

-- The name that is boxed at the front of the text, and what follows the box. Where no box stands there, nothing is boxed
-- and all of the text follows, also where it begins as a box would.
abbrev pub IsBoxed : List ℕ → Option Word → List ℕ → Type 0
IsBoxed text (Some name) rest = BeginsBox text name rest
IsBoxed text None rest = (rest ≡ text) × ((name : Word) (after : List ℕ) → BeginsBox text name after → ⊥)
