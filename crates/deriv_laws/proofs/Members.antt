-- Members of lists: where they stand in a list that is longer or joined, and what holds of each of them.
use Rattle.std.proofs.Common.{◌≡◌, zero, suc, List, [], ◌∷◌, ◌++◌, refl, subst, Contains, arith}
use Rattle.std.specs.List.{AllByRecursion}

pub contains_here : {X : Type 0} (x : X) (xs : List X) → Contains (x ∷ xs) x
contains_here x xs = (0, omega arith, refl)

pub contains_there : {X : Type 0} (y x : X) (xs : List X) → Contains xs x → Contains (y ∷ xs) x
contains_there y x xs h = (suc h.0, omega (arith, h.1), h.2)

-- a member is the first one, or one of the others
pub contains_cases : {X : Type 0} (P : Type 0) (y x : X) (xs : List X) → (y ≡ x → P) → (Contains xs x → P) → Contains (y ∷ xs) x → P
contains_cases P y x xs f g (zero, l, e) = f e
contains_cases P y x xs f g (suc k, l, e) = g (k, omega (arith, l), e)

pub all_each : {X : Type 0} (P : X → Type 0) (xs : List X) (x : X) → AllByRecursion P xs → Contains xs x → P x
all_each P [] x h (k, l, e) = absurd (omega (arith, l))
all_each P (y ∷ xs) x h c = contains_cases (P x) y x xs (λ e. subst P e h.0) (λ d. all_each P xs x h.1 d) c

pub all_given : {X : Type 0} (P : X → Type 0) (xs : List X) → ((x : X) → Contains xs x → P x) → AllByRecursion P xs
all_given P [] f = tt
all_given P (x ∷ xs) f = (f x (contains_here x xs), all_given P xs (λ y c. f y (contains_there x y xs c)))

pub contains_left : {X : Type 0} (xs ys : List X) (x : X) → Contains xs x → Contains (xs ++ ys) x
contains_left [] ys x (k, l, e) = absurd (omega (arith, l))
contains_left (y ∷ xs) ys x c =
    contains_cases (Contains (y ∷ xs ++ ys) x) y x xs (λ e. subst (λ z. Contains (y ∷ xs ++ ys) z) e (contains_here y (xs ++ ys)))
    (λ d. contains_there y x (xs ++ ys) (contains_left xs ys x d)) c

pub contains_right : {X : Type 0} (xs ys : List X) (x : X) → Contains ys x → Contains (xs ++ ys) x
contains_right [] ys x c = c
contains_right (y ∷ xs) ys x c = contains_there y x (xs ++ ys) (contains_right xs ys x c)

-- a member of a joined list is a member of one of the two
pub contains_append : {X : Type 0} (P : Type 0) (xs ys : List X) (x : X) → (Contains xs x → P) → (Contains ys x → P) → Contains (xs ++ ys) x → P
contains_append P [] ys x f g c = g c
contains_append P (y ∷ xs) ys x f g c =
    contains_cases P y x (xs ++ ys) (λ e. f (subst (λ z. Contains (y ∷ xs) z) e (contains_here y xs)))
    (λ d. contains_append P xs ys x (λ i. f (contains_there y x xs i)) g d) c
