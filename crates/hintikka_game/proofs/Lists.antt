-- Any and all over mapped lists.
use Rattle.std.proofs.Common.{◌≡◌, List, [], ◌∷◌, map, refl, ap, ap₂, ◌∙◌, Bool, true, false}
use Rattle.std.specs.Prelude.{◌||◌, ◌&&◌, not}
use Rattle.std.specs.List.{list_any, list_all}
use Rattle.fol_core.specs.Subst.{itself}

pub not_or : (b c : Bool) → not (b || c) ≡ (not b && not c)
not_or true c = refl
not_or false c = refl

pub not_and : (b c : Bool) → not (b && c) ≡ (not b || not c)
not_and true c = refl
not_and false c = refl

pub any_applied : {X Y : Type 0} (f : X → Y → Bool) (y : Y) (xs : List X) → list_any (λ g. g y) (map f xs) ≡ list_any (λ x. f x y) xs
any_applied f y [] = refl
any_applied f y (x ∷ xs) = ap (λ b. f x y || b) (any_applied f y xs)

pub all_applied : {X Y : Type 0} (f : X → Y → Bool) (y : Y) (xs : List X) → list_all (λ g. g y) (map f xs) ≡ list_all (λ x. f x y) xs
all_applied f y [] = refl
all_applied f y (x ∷ xs) = ap (λ b. f x y && b) (all_applied f y xs)

pub any_each : {X Y : Type 0} (f : X → Bool) (h : Y → Bool) (t : X → Y) → ((x : X) → f x ≡ h (t x)) → (xs : List X) →
    list_any f xs ≡ list_any itself (map h (map t xs))
any_each f h t e [] = refl
any_each f h t e (x ∷ xs) = ap₂ ◌||◌ (e x) (any_each f h t e xs)

pub all_each : {X Y : Type 0} (f : X → Bool) (h : Y → Bool) (t : X → Y) → ((x : X) → f x ≡ h (t x)) → (xs : List X) →
    list_all f xs ≡ list_all itself (map h (map t xs))
all_each f h t e [] = refl
all_each f h t e (x ∷ xs) = ap₂ ◌&&◌ (e x) (all_each f h t e xs)

pub none_each : {X Y : Type 0} (f : X → Bool) (h : Y → Bool) (t : X → Y) → ((x : X) → not (f x) ≡ h (t x)) → (xs : List X) →
    not (list_any f xs) ≡ list_all itself (map h (map t xs))
none_each f h t e [] = refl
none_each f h t e (x ∷ xs) = not_or (f x) (list_any f xs) ∙ ap₂ ◌&&◌ (e x) (none_each f h t e xs)

pub some_each : {X Y : Type 0} (f : X → Bool) (h : Y → Bool) (t : X → Y) → ((x : X) → not (f x) ≡ h (t x)) → (xs : List X) →
    not (list_all f xs) ≡ list_any itself (map h (map t xs))
some_each f h t e [] = refl
some_each f h t e (x ∷ xs) = not_and (f x) (list_all f xs) ∙ ap₂ ◌||◌ (e x) (some_each f h t e xs)
