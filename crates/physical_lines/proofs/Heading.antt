-- The first line that isn't blank is one line at most, and so the header.
use Rattle.std.proofs.Common.{◌≡◌, ℕ, ◌+◌, List, [], ◌∷◌, refl, sym, subst, ◌∙◌, inl, inr}
use Rattle.std.specs.Prelude.{◌⊎◌}
use Rattle.physical_lines.specs.Physical.{IsBlankLine, AreBlank, ComesFirst, at_once, past_blank, IsHeader, IsHeaded, LacksHeader}

pub record IsHere (place : ℕ) (line0 : List ℕ) (rest0 : List (List ℕ)) (n : ℕ) (line : List ℕ) (rest : List (List ℕ)) : Type 0 where
  pub written : IsBlankLine line0 → ⊥
  pub number : n ≡ place
  pub is : line ≡ line0
  pub rest_is : rest ≡ rest0

pub record IsLater (place : ℕ) (line0 : List ℕ) (rest0 : List (List ℕ)) (n : ℕ) (line : List ℕ) (rest : List (List ℕ)) : Type 0 where
  pub blank : IsBlankLine line0
  pub comes : ComesFirst (place + 1) rest0 n line rest

abbrev pub Where : ℕ → List (List ℕ) → ℕ → List ℕ → List (List ℕ) → Type 0
Where place [] n line rest = ⊥
Where place (l ∷ ls) n line rest = IsHere place l ls n line rest ⊎ IsLater place l ls n line rest

pub where_first : (place : ℕ) (ls : List (List ℕ)) (n : ℕ) (line : List ℕ) (rest : List (List ℕ)) → ComesFirst place ls n line rest → Where place ls n line rest
where_first _ _ _ _ _ (at_once place line rest h) = inl (record { written = h; number = refl; is = refl; rest_is = refl })
where_first _ _ _ _ _ (past_blank place blank ls n line rest b h) = inr (record { blank = b; comes = h })

pub record IsSameFirst (n m : ℕ) (line line' : List ℕ) (rest rest' : List (List ℕ)) : Type 0 where
  pub number : n ≡ m
  pub is : line ≡ line'
  pub rest_is : rest ≡ rest'

pub first_once : (place : ℕ) (ls : List (List ℕ)) (n m : ℕ) (line line' : List ℕ) (rest rest' : List (List ℕ)) → ComesFirst place ls n line rest → ComesFirst place ls m line' rest' →
    IsSameFirst n m line line' rest rest'
first_once place [] n m line line' rest rest' h k = absurd (where_first place [] n line rest h)
first_once place (l ∷ ls) n m line line' rest rest' h k =
    elim (where_first place (l ∷ ls) n line rest h) [
      | inl a ↦ elim (where_first place (l ∷ ls) m line' rest' k) [
        | inl b ↦ record { number = a.number ∙ sym b.number; is = a.is ∙ sym b.is; rest_is = a.rest_is ∙ sym b.rest_is }
        | inr b ↦ absurd (a.written b.blank)
      ]
      | inr a ↦ elim (where_first place (l ∷ ls) m line' rest' k) [
        | inl b ↦ absurd (b.written a.blank)
        | inr b ↦ first_once (place + 1) ls n m line line' rest rest' a.comes b.comes
      ]
    ]

pub blank_has_none : (place : ℕ) (ls : List (List ℕ)) (n : ℕ) (line : List ℕ) (rest : List (List ℕ)) → AreBlank ls → ComesFirst place ls n line rest → ⊥
blank_has_none place [] n line rest b h = where_first place [] n line rest h
blank_has_none place (l ∷ ls) n line rest b h =
    elim (where_first place (l ∷ ls) n line rest h) [ inl a ↦ a.written b.0 | inr a ↦ blank_has_none (place + 1) ls n line rest b.1 a.comes ]

pub record IsSameHeader (n m : ℕ) (rest rest' : List (List ℕ)) : Type 0 where
  pub number : n ≡ m
  pub rest_is : rest ≡ rest'

pub headed_once : (header : List ℕ) (ls : List (List ℕ)) (n m : ℕ) (rest rest' : List (List ℕ)) → IsHeaded header ls n rest → IsHeaded header ls m rest' → IsSameHeader n m rest rest'
headed_once header ls n m rest rest' h k =
    let s : IsSameFirst n m h.line k.line rest rest' = first_once 1 ls n m h.line k.line rest rest' h.first k.first in
    record { number = s.number; rest_is = s.rest_is }

pub lacks_not_headed : (header : List ℕ) (ls : List (List ℕ)) (n m : ℕ) (rest : List (List ℕ)) → LacksHeader header ls n → IsHeaded header ls m rest → ⊥
lacks_not_headed header ls n m rest (inl o) h =
    let s : IsSameFirst n m o.line h.line o.rest rest = first_once 1 ls n m o.line h.line o.rest rest o.first h.first in
    o.is_other (subst (IsHeader header) (sym s.is) h.is)
lacks_not_headed header ls n m rest (inr b) h = blank_has_none 1 ls m h.line rest b.0 h.first

pub lacks_once : (header : List ℕ) (ls : List (List ℕ)) (n m : ℕ) → LacksHeader header ls n → LacksHeader header ls m → n ≡ m
lacks_once header ls n m (inl a) (inl b) = let s : IsSameFirst n m a.line b.line a.rest b.rest = first_once 1 ls n m a.line b.line a.rest b.rest a.first b.first in s.number
lacks_once header ls n m (inl a) (inr b) = absurd (blank_has_none 1 ls n a.line a.rest b.0 a.first)
lacks_once header ls n m (inr a) (inl b) = absurd (blank_has_none 1 ls m b.line b.rest a.0 b.first)
lacks_once header ls n m (inr a) (inr b) = a.1 ∙ sym b.1
