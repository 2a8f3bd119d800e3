-- A blank, or another byte, at the end of a text.
use Rattle.std.proofs.Common.{◌≡◌, ℕ, ◌-◌, ◌+◌, ◌<◌, Bool, true, false, List, [], ◌∷◌, ◌++◌, length, take, get_or, arith, refl, sym, ap, ◌∙◌}
use Rattle.std.proofs.lemmas.List.{take_more}
use Rattle.std.proofs.Math.Seq.{take-length}
use Rattle.texts.specs.Blanks.{is_blank, unless_blank, before_blanks}

pub before_blanks-blank : (xs : List ℕ) (b : ℕ) → is_blank b ≡ true → before_blanks (xs ++ b ∷ []) ≡ before_blanks xs
before_blanks-blank [] b e = rw e refl
before_blanks-blank (x ∷ xs) b e = ap (unless_blank x) (before_blanks-blank xs b e)

unless_blank-append : (x : ℕ) (xs : List ℕ) (b : ℕ) → unless_blank x (xs ++ b ∷ []) ≡ x ∷ (xs ++ b ∷ [])
unless_blank-append x [] b = refl
unless_blank-append x (y ∷ ys) b = refl

pub before_blanks-other : (xs : List ℕ) (b : ℕ) → is_blank b ≡ false → before_blanks (xs ++ b ∷ []) ≡ xs ++ b ∷ []
before_blanks-other [] b e = rw e refl
before_blanks-other (x ∷ xs) b e = ap (unless_blank x) (before_blanks-other xs b e) ∙ unless_blank-append x xs b

-- A text is what stands before its last byte, and that byte.
ends : (xs : List ℕ) → 0 < length xs → take (length xs - 1) xs ++ get_or xs (length xs - 1) 0 ∷ [] ≡ xs
ends xs h =
    let n : length xs - 1 + 1 ≡ length xs = omega arith in
    sym (take_more xs (length xs - 1) 0 (omega arith)) ∙ ap (λ k. take k xs) n ∙ take-length xs

pub drops_blank : (xs : List ℕ) → 0 < length xs → is_blank (get_or xs (length xs - 1) 0) ≡ true → before_blanks (take (length xs - 1) xs) ≡ before_blanks xs
drops_blank xs h e = sym (before_blanks-blank (take (length xs - 1) xs) (get_or xs (length xs - 1) 0) e) ∙ ap before_blanks (ends xs h)

pub keeps_other : (xs : List ℕ) → 0 < length xs → is_blank (get_or xs (length xs - 1) 0) ≡ false → xs ≡ before_blanks xs
keeps_other xs h e = sym (ends xs h) ∙ sym (before_blanks-other (take (length xs - 1) xs) (get_or xs (length xs - 1) 0) e) ∙ ap before_blanks (ends xs h)

-- A text begins with what is left of it without the blanks at its end.
front_unless : (b : ℕ) (bs cs : List ℕ) (tail : List ℕ) → bs ≡ cs ++ tail → (c : Bool) → is_blank b ≡ c → (t : List ℕ) × (b ∷ bs ≡ unless_blank b cs ++ t)
front_unless b bs [] tail e true i = (b ∷ bs, rw i refl)
front_unless b bs [] tail e false i = (bs, rw i refl)
front_unless b bs (c ∷ cs) tail e _ i = (tail, ap (λ ys. b ∷ ys) e)

pub front_before_blanks : (bs : List ℕ) → (tail : List ℕ) × (bs ≡ before_blanks bs ++ tail)
front_before_blanks [] = ([], refl)
front_before_blanks (b ∷ bs) =
    let rest : (tail : List ℕ) × (bs ≡ before_blanks bs ++ tail) = front_before_blanks bs in
    front_unless b bs (before_blanks bs) rest.0 rest.1 (is_blank b) refl
