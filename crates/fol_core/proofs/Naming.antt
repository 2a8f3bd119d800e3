-- The term that is read off side by side, form by form.
use Rattle.std.proofs.Common.{◌≡◌, ℕ, zero, suc, ◌+◌, ◌<◌, ◌≤◌, min, List, [], ◌∷◌, length, get_or, drop, drop-cons, add-one, arith, map, refl, ap, ap₂, sym, ◌∙◌, Bool, rules}
use Rattle.std.specs.Prelude.{Option, None}
use Rattle.fol_core.specs.declared.sent.Term.{Term, out-Term}
use Rattle.fol_core.specs.declared.sent.Term.{the_lemmas as term_lemmas}
use Rattle.fol_core.specs.declared.sent.Term.TheVariants.{App}
use Rattle.fol_core.specs.declared.sent.Sent.{Sent, the_lemmas}
use Rattle.fol_core.specs.declared.sent.Sent.TheVariants as s
use Rattle.fol_core.specs.Word.{Word}
use Rattle.fol_core.specs.Naming.{or_else, first_term, first_given, each_at, found_in, args_of, term_where}
use Rattle.fol_core.proofs.Terms.{out_app}

-- Tests made of the items of one list, each at the item beside it.
given_each : {X Y : Type 0} (f : X → Y → Option Term) (xs : List X) (ys : List Y) → first_given (map f xs) ys ≡ first_term f xs ys
given_each f [] ys = refl
given_each f (x ∷ xs) [] = refl
given_each f (x ∷ xs) (y ∷ ys) = ap (or_else (f x y)) (given_each f xs ys)

found_args : (x : Word) (free : Bool) (g : Word) (ts : List Term) (u : Term) → found_in x free (App g ts) u ≡ first_term (found_in x free) ts (args_of (out-Term u))
found_args x free g ts u = let e : found_in x free (App g ts) u ≡ first_given (map (found_in x free) ts) (args_of (out-Term u)) = search (rules, term_lemmas) in e ∙ given_each (found_in x free) ts (args_of (out-Term u))

pub found_app : (x : Word) (free : Bool) (g h : Word) (ts us : List Term) → found_in x free (App g ts) (App h us) ≡ first_term (found_in x free) ts us
found_app x free g h ts us = found_args x free g ts (App h us) ∙ ap (λ w. first_term (found_in x free) ts (args_of w)) (out_app h us)

nothing : {X : Type 0} (f : X → Term → Option Term) (xs : List X) → first_term f xs [] ≡ None
nothing f [] = refl
nothing f (x ∷ xs) = refl

-- Beside what has no arguments nothing is read off a function.
pub found_none : (x : Word) (free : Bool) (g : Word) (ts : List Term) (u : Term) → args_of (out-Term u) ≡ [] → found_in x free (App g ts) u ≡ None
found_none x free g ts u e = found_args x free g ts u ∙ ap (first_term (found_in x free) ts) e ∙ nothing (found_in x free) ts

given_first : (x : Word) (free : Bool) (ps qs : List Sent) → first_given (each_at free (map (term_where x) ps)) qs ≡ first_term (λ p q. term_where x p free q) ps qs
given_first x free [] qs = refl
given_first x free (p ∷ ps) [] = refl
given_first x free (p ∷ ps) (q ∷ qs) = ap (or_else (term_where x p free q)) (given_first x free ps qs)

pub found_and : (x : Word) (ps qs : List Sent) (free : Bool) → term_where x (s.And ps) free (s.And qs) ≡ first_term (λ p q. term_where x p free q) ps qs
found_and x ps qs free = let e : term_where x (s.And ps) free (s.And qs) ≡ first_given (each_at free (map (term_where x) ps)) qs = search (rules, the_lemmas) in e ∙ given_first x free ps qs

pub found_or : (x : Word) (ps qs : List Sent) (free : Bool) → term_where x (s.Or ps) free (s.Or qs) ≡ first_term (λ p q. term_where x p free q) ps qs
found_or x ps qs free = let e : term_where x (s.Or ps) free (s.Or qs) ≡ first_given (each_at free (map (term_where x) ps)) qs = search (rules, the_lemmas) in e ∙ given_first x free ps qs

-- What items side by side give from the place i on: what the items there give, and else what the later ones do.
pub terms_next : {X : Type 0} (g : X → X → Option Term) (xs ys : List X) (i : ℕ) (x y : X) → i < min (length xs) (length ys) → x ≡ get_or xs i x → y ≡ get_or ys i y →
    first_term g (drop i xs) (drop i ys) ≡ or_else (g x y) (first_term g (drop (i + 1) xs) (drop (i + 1) ys))
terms_next g xs ys i x y h e k =
    let a : i < length xs = omega arith in
    let b : i < length ys = omega arith in
    rw add-one (ap₂ (first_term g) (drop-cons xs i x a ∙ ap (λ z. z ∷ drop (suc i) xs) (sym e)) (drop-cons ys i y b ∙ ap (λ z. z ∷ drop (suc i) ys) (sym k)))

-- Past the end of either list nothing is given.
pub terms_end : {X : Type 0} (g : X → X → Option Term) (xs ys : List X) (i : ℕ) → min (length xs) (length ys) ≤ i → first_term g (drop i xs) (drop i ys) ≡ None
terms_end g [] ys zero h = refl
terms_end g [] ys (suc i) h = refl
terms_end g (x ∷ xs) [] zero h = refl
terms_end g (x ∷ xs) [] (suc i) h = after (drop i xs)
  where
    after : (zs : List _) → first_term g zs [] ≡ None
    after [] = refl
    after (z ∷ zs) = refl
terms_end g (x ∷ xs) (y ∷ ys) zero h = absurd (omega arith)
terms_end g (x ∷ xs) (y ∷ ys) (suc i) h = terms_end g xs ys i (omega arith)
