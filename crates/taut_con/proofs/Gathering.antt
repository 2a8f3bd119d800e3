-- Sentences gathered one after the other are the distinct ones.
use Rattle.std.proofs.Common.{◌≡◌, ℕ, ◌+◌, ◌<◌, List, [], ◌∷◌, ◌++◌, length, get_or, take, refl, ap, sym, ◌∙◌, subst, Bool, true, false, true≢false, IsTrue, Contains, append-nil, arith}
use Rattle.std.specs.Prelude.{not, ◌&&◌, ◌||◌, cond, filter}
use Rattle.std.specs.List.{flat_map, list_any}
use Rattle.fol_core.specs.declared.sent.Sent.{Sent}
use Rattle.fol_core.proofs.Equality.{alike_refl, alike_same}
use Rattle.deriv_laws.specs.Discharge.{alike}
use Rattle.deriv_laws.proofs.Lists.{flat_more}
use Rattle.deriv_laws.proofs.Members.{contains_here, contains_there, contains_cases}
use Rattle.taut_con.specs.Letters.{letter_occurrences, letters, distinct}
use Rattle.taut_con.specs.Gathered.{is_among, with_one, with_each}

-- two truth values that are true together are one
pub same_truth : (a b : Bool) → (IsTrue a → IsTrue b) → (IsTrue b → IsTrue a) → a ≡ b
same_truth true true h k = refl
same_truth true false h k = sym (h refl)
same_truth false true h k = k refl
same_truth false false h k = refl

or_right : (a b : Bool) → b ≡ true → (a || b) ≡ true
or_right true b h = refl
or_right false b h = h

-- the sentence is one of these exactly where the test says so
pub among_contained : (ps : List Sent) (q : Sent) → Contains ps q → IsTrue (is_among ps q)
among_contained [] q c = absurd (contains_none q c)
  where
    contains_none : (q : Sent) → Contains [] q → ⊥
    contains_none q (k, l, e) = absurd (omega (arith, l))
among_contained (p ∷ ps) q c =
    contains_cases (IsTrue (is_among (p ∷ ps) q)) p q ps
    (λ e. subst (λ x. IsTrue (is_among (p ∷ ps) x)) e (ap (λ b. b || is_among ps p) (alike_refl p)))
    (λ d. or_right (alike p q) (is_among ps q) (among_contained ps q d)) c

contained_by : (p q : Sent) (ps : List Sent) (b : Bool) → alike p q ≡ b → (IsTrue (is_among ps q) → Contains ps q) → IsTrue (b || is_among ps q) → Contains (p ∷ ps) q
contained_by p q ps true e f h = subst (λ x. Contains (p ∷ ps) x) (alike_same p q e) (contains_here p ps)
contained_by p q ps false e f h = contains_there p q ps (f h)

pub contained_among : (ps : List Sent) (q : Sent) → IsTrue (is_among ps q) → Contains ps q
contained_among [] q h = absurd (true≢false (sym h))
contained_among (p ∷ ps) q h = contained_by p q ps (alike p q) refl (contained_among ps q) h

-- more and then more
pub each_append : (ps qs rs : List Sent) → with_each ps (qs ++ rs) ≡ with_each (with_each ps qs) rs
each_append ps [] rs = refl
each_append ps (q ∷ qs) rs = each_append (with_one ps q) qs rs

pub each_more : (found : List Sent) (ss : List Sent) (i : ℕ) (x : Sent) (now next : List Sent) → i < length ss → x ≡ get_or ss i x →
    now ≡ with_each found (flat_map letter_occurrences (take i ss)) → next ≡ with_each now (letter_occurrences x) →
    next ≡ with_each found (flat_map letter_occurrences (take (i + 1) ss))
each_more found ss i x now next h e is k =
    k ∙ ap (λ ls. with_each ls (letter_occurrences x)) is
    ∙ sym (each_append found (flat_map letter_occurrences (take i ss)) (letter_occurrences x))
    ∙ ap (λ ls. with_each found ls) (sym (flat_more letter_occurrences ss i x h e))

-- a filter of a filter
one_filter : (f : Sent → Bool) (x : Sent) (b : Bool) (ys zs : List Sent) → filter f ys ≡ zs → filter f (cond b (x ∷ ys) ys) ≡ cond (b && f x) (x ∷ zs) zs
one_filter f x true ys zs e = ap (λ ws. cond (f x) (x ∷ ws) ws) e
one_filter f x false ys zs e = e

filters : (f g h : Sent → Bool) → ((x : Sent) → h x ≡ (g x && f x)) → (xs : List Sent) → filter f (filter g xs) ≡ filter h xs
filters f g h e [] = refl
filters f g h e (x ∷ xs) = one_filter f x (g x) (filter g xs) (filter h xs) (filters f g h e xs) ∙ ap (λ b. cond b (x ∷ filter h xs) (filter h xs)) (sym (e x))

keep_all : (xs : List Sent) → filter (λ x. not (is_among [] x)) xs ≡ xs
keep_all [] = refl
keep_all (x ∷ xs) = ap (λ ys. x ∷ ys) (keep_all xs)

not_or : (a b : Bool) → not (a || b) ≡ (not a && not b)
not_or true b = refl
not_or false b = refl

not_either : (a b : Bool) → not (a || b) ≡ (not b && not a)
not_either true true = refl
not_either true false = refl
not_either false true = refl
not_either false false = refl

any_append : (f : Sent → Bool) (xs ys : List Sent) → list_any f (xs ++ ys) ≡ (list_any f xs || list_any f ys)
any_append f [] ys = refl
any_append f (x ∷ xs) ys = ap (λ b. f x || b) (any_append f xs ys) ∙ sym (or_assoc (f x) (list_any f xs) (list_any f ys))
  where
    or_assoc : (a b c : Bool) → ((a || b) || c) ≡ (a || (b || c))
    or_assoc true b c = refl
    or_assoc false b c = refl

or_false : (a : Bool) → (a || false) ≡ a
or_false true = refl
or_false false = refl

among_last : (ps : List Sent) (q x : Sent) → is_among (ps ++ q ∷ []) x ≡ (is_among ps x || alike q x)
among_last ps q x = any_append (λ p. alike p x) ps (q ∷ []) ∙ ap (λ b. is_among ps x || b) (or_false (alike q x))

-- a sentence that is like one of these is one of these
still_among : (ps : List Sent) (q x : Sent) (a : Bool) → alike q x ≡ a → is_among ps q ≡ true → not (is_among ps x) ≡ (not a && not (is_among ps x))
still_among ps q x true e h = ap not (subst (λ z. is_among ps z ≡ true) (alike_same q x e) h)
still_among ps q x false e h = refl

append_append : (xs : List Sent) (y : Sent) (zs : List Sent) → (xs ++ y ∷ []) ++ zs ≡ xs ++ y ∷ zs
append_append [] y zs = refl
append_append (x ∷ xs) y zs = ap (λ ws. x ∷ ws) (append_append xs y zs)

abbrev beyond : List Sent → List Sent → List Sent
beyond ps xs = filter (λ x. not (is_among ps x)) xs

one_more : (ps xs : List Sent) (q : Sent) (b : Bool) → is_among ps q ≡ b →
    cond b ps (ps ++ q ∷ []) ++ beyond (cond b ps (ps ++ q ∷ [])) xs ≡ ps ++ cond (not b) (q ∷ beyond ps (filter (λ x. not (alike q x)) xs)) (beyond ps (filter (λ x. not (alike q x)) xs))
one_more ps xs q true h =
    ap (λ ys. ps ++ ys) (sym (filters (λ x. not (is_among ps x)) (λ x. not (alike q x)) (λ x. not (is_among ps x)) (λ x. still_among ps q x (alike q x) refl h) xs))
one_more ps xs q false h =
    append_append ps q (beyond (ps ++ q ∷ []) xs)
    ∙ ap (λ ys. ps ++ q ∷ ys) (sym (filters (λ x. not (is_among ps x)) (λ x. not (alike q x)) (λ x. not (is_among (ps ++ q ∷ []) x)) (λ x. ap not (among_last ps q x) ∙ not_either (is_among ps x) (alike q x)) xs))

each_distinct : (ps qs : List Sent) → with_each ps qs ≡ ps ++ beyond ps (distinct qs)
each_distinct ps [] = sym (append-nil ps)
each_distinct ps (q ∷ qs) = each_distinct (with_one ps q) qs ∙ one_more ps (distinct qs) q (is_among ps q) refl

-- Gathered from nothing on, the sentences are the distinct ones.
pub gathered : (qs : List Sent) → with_each [] qs ≡ distinct qs
gathered qs = each_distinct [] qs ∙ keep_all (distinct qs)

flat_append : (ps qs : List Sent) → flat_map letter_occurrences (ps ++ qs) ≡ flat_map letter_occurrences ps ++ flat_map letter_occurrences qs
flat_append [] qs = refl
flat_append (p ∷ ps) qs = ap (λ ls. letter_occurrences p ++ ls) (flat_append ps qs) ∙ sym (assoc (letter_occurrences p) (flat_map letter_occurrences ps) (flat_map letter_occurrences qs))
  where
    assoc : (xs ys zs : List Sent) → (xs ++ ys) ++ zs ≡ xs ++ (ys ++ zs)
    assoc [] ys zs = refl
    assoc (x ∷ xs) ys zs = ap (λ ws. x ∷ ws) (assoc xs ys zs)

-- The letters of an argument, the premises' first.
pub of_argument : (ps : List Sent) (g : Sent) → with_each (with_each [] (flat_map letter_occurrences ps)) (letter_occurrences g) ≡ letters (ps ++ g ∷ [])
of_argument ps g =
    sym (each_append [] (flat_map letter_occurrences ps) (letter_occurrences g))
    ∙ gathered (flat_map letter_occurrences ps ++ letter_occurrences g)
    ∙ ap distinct (ap (λ ls. flat_map letter_occurrences ps ++ ls) (sym (append-nil (letter_occurrences g))) ∙ sym (flat_append ps (g ∷ [])))
