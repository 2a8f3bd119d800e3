-- What replacement says of each form of sentence.
use Rattle.std.proofs.Common.{◌≡◌, ℕ, ◌+◌, ◌<◌, zero, suc, List, [], ◌∷◌, length, get_or, take, map, refl, ap, ap₂, ◌∙◌, Bool, true, false, rules, arith, add-one}
use Rattle.std.proofs.lemmas.Bool.{and_parts}
use Rattle.std.specs.Prelude.{◌&&◌}
use Rattle.std.specs.Str.{bytes_eq}
use Rattle.fol_core.specs.declared.sent.Term.{Term}
use Rattle.fol_core.specs.declared.sent.Sent.{Sent, the_lemmas}
use Rattle.fol_core.specs.declared.sent.Sent.TheVariants as s
use Rattle.fol_core.specs.Word.{Word}
use Rattle.fol_core.specs.Alike.{repl, repl_term, pairwise, all_pairs}

-- Tests made of the items of one list, each at the item beside it, are one test of the items side by side.
pub paired : {X : Type 0} (f : X → X → Bool) (xs ys : List X) → pairwise (map f xs) ys ≡ all_pairs f xs ys
paired f [] [] = refl
paired f [] (y ∷ ys) = refl
paired f (x ∷ xs) [] = refl
paired f (x ∷ xs) (y ∷ ys) = ap (λ b. f x y && b) (paired f xs ys)

pub repl_atom : (n m : Term) (p q : Word) (ts us : List Term) → repl n m (s.Atom p ts) (s.Atom q us) ≡ (bytes_eq p q && all_pairs (repl_term n m) ts us)
repl_atom n m p q ts us = search (rules, the_lemmas)

pub repl_eq : (n m : Term) (a b c d : Term) → repl n m (s.Eq a b) (s.Eq c d) ≡ (repl_term n m a c && repl_term n m b d)
repl_eq n m a b c d = search (rules, the_lemmas)

pub repl_not : (n m : Term) (p q : Sent) → repl n m (s.Not p) (s.Not q) ≡ repl n m p q
repl_not n m p q = search (rules, the_lemmas)

pub repl_if : (n m : Term) (p q p' q' : Sent) → repl n m (s.If p q) (s.If p' q') ≡ (repl n m p p' && repl n m q q')
repl_if n m p q p' q' = search (rules, the_lemmas)

pub repl_iff : (n m : Term) (p q p' q' : Sent) → repl n m (s.Iff p q) (s.Iff p' q') ≡ (repl n m p p' && repl n m q q')
repl_iff n m p q p' q' = search (rules, the_lemmas)

pub repl_all : (n m : Term) (x y : Word) (p q : Sent) → repl n m (s.All x p) (s.All y q) ≡ (bytes_eq x y && repl n m p q)
repl_all n m x y p q = search (rules, the_lemmas)

pub repl_ex : (n m : Term) (x y : Word) (p q : Sent) → repl n m (s.Ex x p) (s.Ex y q) ≡ (bytes_eq x y && repl n m p q)
repl_ex n m x y p q = search (rules, the_lemmas)

pub repl_bottom : (n m : Term) → repl n m s.Bottom s.Bottom ≡ true
repl_bottom n m = search (rules, the_lemmas)

pub repl_and : (n m : Term) (ps qs : List Sent) → repl n m (s.And ps) (s.And qs) ≡ all_pairs (repl n m) ps qs
repl_and n m ps qs = let e : repl n m (s.And ps) (s.And qs) ≡ pairwise (map (repl n m) ps) qs = search (rules, the_lemmas) in e ∙ paired (repl n m) ps qs

pub repl_or : (n m : Term) (ps qs : List Sent) → repl n m (s.Or ps) (s.Or qs) ≡ all_pairs (repl n m) ps qs
repl_or n m ps qs = let e : repl n m (s.Or ps) (s.Or qs) ≡ pairwise (map (repl n m) ps) qs = search (rules, the_lemmas) in e ∙ paired (repl n m) ps qs

fails_right : (a b : Bool) → b ≡ false → (a && b) ≡ false
fails_right true b e = e
fails_right false b e = refl

pairs_next : {X : Type 0} (f : X → X → Bool) (xs ys : List X) (i : ℕ) (x y : X) → i < length xs → length xs ≡ length ys → x ≡ get_or xs i x → y ≡ get_or ys i y →
    all_pairs f (take i xs) (take i ys) ≡ true → f x y ≡ true → all_pairs f (take (suc i) xs) (take (suc i) ys) ≡ true
pairs_next f [] ys i x y h l e g b w = absurd (omega arith)
pairs_next f (z ∷ xs) [] i x y h l e g b w = absurd (omega arith)
pairs_next f (z ∷ xs) (v ∷ ys) zero x y h l e g b w = rw (← e) (rw (← g) (ap (λ c. c && true) w))
pairs_next f (z ∷ xs) (v ∷ ys) (suc i) x y h l e g b w =
    let p = and_parts (f z v) (all_pairs f (take i xs) (take i ys)) b in
    ap₂ ◌&&◌ p.0 (pairs_next f xs ys i x y (omega arith) (omega arith) e g p.1 w)

-- Items that pass side by side before the place i, and there, pass up to it.
pub pairs_more : {X : Type 0} (f : X → X → Bool) (xs ys : List X) (i : ℕ) (x y : X) → i < length xs → length xs ≡ length ys → x ≡ get_or xs i x → y ≡ get_or ys i y →
    all_pairs f (take i xs) (take i ys) ≡ true → f x y ≡ true → all_pairs f (take (i + 1) xs) (take (i + 1) ys) ≡ true
pairs_more f xs ys i x y h l e g b w = rw add-one (pairs_next f xs ys i x y h l e g b w)

-- Where the items at one place fail, so do the lists.
pub pairs_fail : {X : Type 0} (f : X → X → Bool) (xs ys : List X) (i : ℕ) (x y : X) → i < length xs → length xs ≡ length ys → x ≡ get_or xs i x → y ≡ get_or ys i y →
    f x y ≡ false → all_pairs f xs ys ≡ false
pairs_fail f [] ys i x y h l e g w = absurd (omega arith)
pairs_fail f (z ∷ xs) [] i x y h l e g w = refl
pairs_fail f (z ∷ xs) (v ∷ ys) zero x y h l e g w = rw (← e) (rw (← g) (ap (λ c. c && all_pairs f xs ys) w))
pairs_fail f (z ∷ xs) (v ∷ ys) (suc i) x y h l e g w = fails_right (f z v) (all_pairs f xs ys) (pairs_fail f xs ys i x y (omega arith) (omega arith) e g w)
