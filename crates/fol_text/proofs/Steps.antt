-- The steps of loops over marks.
use Rattle.std.proofs.Common.{◌≡◌, ℕ, ◌+◌, ◌<◌, Bool, List, [], ◌∷◌, ◌++◌, length, map, take, get_or, refl, ap, sym, ◌∙◌, append_assoc}
use Rattle.std.proofs.lemmas.List.{append-nil}
use Rattle.fol_core.proofs.Parts.{map_more}
use Rattle.fol_text.specs.Occurrences.{joined}

joined_append : (xs ys : List (List Bool)) → joined (xs ++ ys) ≡ joined xs ++ joined ys
joined_append [] ys = refl
joined_append (x ∷ xs) ys = ap (λ m. x ++ m) (joined_append xs ys) ∙ sym (append_assoc x (joined xs) (joined ys))

pub joined_more : {X : Type 0} (f : X → List Bool) (xs : List X) (i : ℕ) (x : X) → i < length xs → x ≡ get_or xs i x → joined (map f (take (i + 1) xs)) ≡ joined (map f (take i xs)) ++ f x
joined_more f xs i x h e = ap joined (map_more f xs i x h e) ∙ joined_append (map f (take i xs)) (f x ∷ []) ∙ ap (λ m. joined (map f (take i xs)) ++ m) (append-nil (f x))

-- the marks of one more item, put behind those before
pub marks_more : {X : Type 0} (f : X → List Bool) (xs : List X) (i : ℕ) (x : X) (before now after : List Bool) → i < length xs → x ≡ get_or xs i x
    → now ≡ before ++ joined (map f (take i xs)) → after ≡ now ++ f x → after ≡ before ++ joined (map f (take (i + 1) xs))
marks_more f xs i x before now after h e inv put =
    put ∙ ap (λ m. m ++ f x) inv ∙ append_assoc before (joined (map f (take i xs))) (f x) ∙ ap (λ m. before ++ m) (sym (joined_more f xs i x h e))
