-- A text cut in two at the first byte of a kind.
use Rattle.std.specs.Prelude.{◌≡◌, ℕ, ◌==◌, false, List, ◌∷◌, ◌++◌}
use Rattle.std.specs.List.{list_any}

-- The text has no such byte.
abbrev pub Lacks : ℕ → List ℕ → Type 0
Lacks c text = list_any (λ b. b == c) text ≡ false

-- The text is the front, the byte and the rest, and the front has no such byte.
pub record IsCut (c : ℕ) (text front rest : List ℕ) : Type 0 where
  pub joined : text ≡ front ++ c ∷ rest
  pub first : Lacks c front
