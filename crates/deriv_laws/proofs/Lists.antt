-- Facts of all members of a list, and lists joined from lists.
use Rattle.std.proofs.Common.{◌≡◌, ℕ, zero, suc, ◌+◌, ◌<◌, ◌≤◌, List, [], ◌∷◌, ◌++◌, length, take, get_or, ap, sym, ◌∙◌, Result, Ok, Err, IfOk, OnOk, arith, append-nil, length-append}
use Rattle.std.specs.List.{flat_map, AllByRecursion}
use Rattle.std.proofs.lemmas.List.{take_more}
use Rattle.std.proofs.lemmas.Grind.{flat_map-append}

pub all_both : {X : Type 0} (P : X → Type 0) (xs ys : List X) → AllByRecursion P xs → AllByRecursion P ys → AllByRecursion P (xs ++ ys)
all_both P [] ys a b = b
all_both P (x ∷ xs) ys a b = (a.0, all_both P xs ys a.1 b)

pub all_left : {X : Type 0} (P : X → Type 0) (xs ys : List X) → AllByRecursion P (xs ++ ys) → AllByRecursion P xs
all_left P [] ys h = tt
all_left P (x ∷ xs) ys h = (h.0, all_left P xs ys h.1)

pub all_right : {X : Type 0} (P : X → Type 0) (xs ys : List X) → AllByRecursion P (xs ++ ys) → AllByRecursion P ys
all_right P [] ys h = h
all_right P (x ∷ xs) ys h = all_right P xs ys h.1

pub all_turn : {X : Type 0} (P Q : X → Type 0) (f : (x : X) → P x → Q x) (xs : List X) → AllByRecursion P xs → AllByRecursion Q xs
all_turn P Q f [] h = tt
all_turn P Q f (x ∷ xs) h = (f x h.0, all_turn P Q f xs h.1)

-- the list that one more member adds
pub flat_more : {X Y : Type 0} (f : X → List Y) (xs : List X) (i : ℕ) (x : X) → i < length xs → x ≡ get_or xs i x →
    flat_map f (take (i + 1) xs) ≡ flat_map f (take i xs) ++ f x
flat_more f xs i x h e =
    rw (take_more xs i x h) (flat_map-append f (take i xs) (get_or xs i x ∷ []) ∙ ap (λ ys. flat_map f (take i xs) ++ ys) (append-nil (f (get_or xs i x)) ∙ ap f (sym e)))

flat_take : {X Y : Type 0} (f : X → List Y) (xs : List X) (k : ℕ) → length (flat_map f (take k xs)) ≤ length (flat_map f xs)
flat_take f [] zero = omega arith
flat_take f [] (suc k) = omega arith
flat_take f (x ∷ xs) zero = omega arith
flat_take f (x ∷ xs) (suc k) = omega (arith, flat_take f xs k, length-append (f x) (flat_map f (take k xs)), length-append (f x) (flat_map f xs))

-- what one member adds, with what comes before it, is no more than the whole
pub part_within : {X Y : Type 0} (f : X → List Y) (xs : List X) (i : ℕ) (x : X) → i < length xs → x ≡ get_or xs i x →
    length (flat_map f (take i xs)) + length (f x) ≤ length (flat_map f xs)
part_within f xs i x h e = omega (arith, flat_take f xs (i + 1), ap length (flat_more f xs i x h e), length-append (flat_map f (take i xs)) (f x))

-- what a success brings, turned into what follows from it
pub on_ok : {A E : Type 0} (r : Result A E) (P Q : Type 0) → (P → Q) → OnOk r P → OnOk r Q
on_ok (Ok a) P Q f h = f h
on_ok (Err e) P Q f h = tt

-- what holds anyway holds of a success
pub if_ok : {A E : Type 0} (r : Result A E) (P : Type 0) → P → IfOk r (λ a. P)
if_ok (Ok a) P h = h
if_ok (Err e) P h = tt
