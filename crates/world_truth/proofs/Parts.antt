-- Lists under a map, and sums of parts.
use Rattle.std.proofs.Common.{◌≡◌, ℕ, ◌+◌, ◌<◌, List, [], ◌∷◌, ◌++◌, length, get_or, take, map, refl, arith, ap, sym}
use Rattle.std.proofs.lemmas.List.{take_more, map-append}
use Rattle.std.specs.Prelude.{Bool, ◌||◌, ◌&&◌}
use Rattle.std.specs.List.{list_any, list_all}
use Rattle.fol_core.specs.Subst.{itself}
use Rattle.fol_core.specs.Size.{total}

pub map_more : {X Y : Type 0} (f : X → Y) (xs : List X) (i : ℕ) (x : X) → i < length xs → x ≡ get_or xs i x →
    map f (take (i + 1) xs) ≡ map f (take i xs) ++ f x ∷ []
map_more f xs i x h e = rw (take_more xs i x h) (rw (map-append f (take i xs) (get_or xs i x ∷ [])) (ap (λ y. map f (take i xs) ++ f y ∷ []) (sym e)))

pub total-append : (ms ns : List ℕ) → total (ms ++ ns) ≡ total ms + total ns
total-append [] ns = omega arith
total-append (m ∷ ms) ns = omega (arith, total-append ms ns)

pub total_more : {X : Type 0} (f : X → ℕ) (xs : List X) (i : ℕ) (x : X) → i < length xs → x ≡ get_or xs i x →
    total (map f (take (i + 1) xs)) ≡ total (map f (take i xs)) + f x
total_more f xs i x h e = rw (map_more f xs i x h e) (omega (arith, total-append (map f (take i xs)) (f x ∷ [])))

pub any_itself : {X : Type 0} (f : X → Bool) (xs : List X) → list_any itself (map f xs) ≡ list_any f xs
any_itself f [] = refl
any_itself f (x ∷ xs) = ap (λ b. f x || b) (any_itself f xs)

pub all_itself : {X : Type 0} (f : X → Bool) (xs : List X) → list_all itself (map f xs) ≡ list_all f xs
all_itself f [] = refl
all_itself f (x ∷ xs) = ap (λ b. f x && b) (all_itself f xs)

pub all_applied : {X Y : Type 0} (f : X → Y → Bool) (y : Y) (xs : List X) → list_all (λ g. g y) (map f xs) ≡ list_all (λ x. f x y) xs
all_applied f y [] = refl
all_applied f y (x ∷ xs) = ap (λ b. f x y && b) (all_applied f y xs)

pub any_applied : {X Y : Type 0} (f : X → Y → Bool) (y : Y) (xs : List X) → list_any (λ g. g y) (map f xs) ≡ list_any (λ x. f x y) xs
any_applied f y [] = refl
any_applied f y (x ∷ xs) = ap (λ b. f x y || b) (any_applied f y xs)
