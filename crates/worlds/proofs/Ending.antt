-- The predicate of a word, looked for among those whose words end in the same letter.
use Rattle.std.proofs.Common.{◌≡◌, ◌≢◌, ℕ, ◌<◌, ◌≤◌, Bool, true, false, List, [], ◌∷◌, length, get_or, subst, arith, refl, sym, zero, suc, ◌-◌}
use Rattle.std.specs.Prelude.{◌==◌, None}
use Rattle.std.specs.List.{find, filter}
use Rattle.std.specs.Str.{bytes_eq}
use Rattle.std.proofs.lemmas.Bool.{ne_eqb, eq-eqb}
use Rattle.fol_core.specs.Word.{Word}
use Rattle.fol_core.proofs.Equality.{word_same}
use Rattle.worlds.specs.declared.predicate.Predicate.{Predicate}
use Rattle.worlds.specs.declared.predicate.Predicate.TheVariants as p
use Rattle.worlds.specs.inside.Endings.{last_letter, ends_in}
use Rattle.worlds.specs.Predicates.{word_of, predicates, predicate_of}

-- a test that only holds where another one does is first met among what that one leaves
found_at : (f g : Predicate → Bool) (q : Predicate) (qs : List Predicate) (a b : Bool) → f q ≡ a → g q ≡ b → (a ≡ true → b ≡ true) → find f (filter g qs) ≡ find f qs → find f (filter g (q ∷ qs)) ≡ find f (q ∷ qs)
found_at f g q qs true true e h i ih = rw h (rw e refl)
found_at f g q qs false true e h i ih = rw h (rw e ih)
found_at f g q qs false false e h i ih = rw h (rw e ih)
found_at f g q qs true false e h i ih = let apart : false ≡ true = i refl in absurd (cc)

found_still : (f g : Predicate → Bool) → ((q : Predicate) → f q ≡ true → g q ≡ true) → (qs : List Predicate) → find f (filter g qs) ≡ find f qs
found_still f g h [] = refl
found_still f g h (q ∷ qs) = found_at f g q qs (f q) (g q) refl refl (h q) (found_still f g h qs)

same_last : (xs : Word) (i j m n : ℕ) → i ≡ j → i < length xs → get_or xs i m ≡ get_or xs j n
same_last [] i j m n e h = absurd (omega (arith, h))
same_last (x ∷ xs) zero j m n e h = subst (λ k. x ≡ get_or (x ∷ xs) k n) e refl
same_last (x ∷ xs) (suc i) zero m n e h = absurd (omega (arith, e))
same_last (x ∷ xs) (suc i) (suc j) m n e h = same_last xs i j m n (omega (arith, e)) (omega (arith, h))

same_ends : (word : Word) (other : ℕ) → 1 ≤ length word → (v : Word) → bytes_eq v word ≡ true → (last_letter v == get_or word (length word - 1) other) ≡ true
same_ends word other h v e =
    let same : v ≡ word = word_same v word e in
    subst (λ u. (last_letter u == get_or word (length word - 1) other) ≡ true) (sym same) (eq-eqb (last_letter word) (get_or word (length word - 1) other) (same_last word (length word - 1) (length word - 1) 0 other refl (omega (arith, h))))

pub found_among : (word : Word) (other : ℕ) → 1 ≤ length word → find (λ q. bytes_eq (word_of q) word) (filter (ends_in (get_or word (length word - 1) other)) predicates) ≡ predicate_of word
unfolding predicate_of
found_among word other h = found_still (λ q. bytes_eq (word_of q) word) (ends_in (get_or word (length word - 1) other)) (λ q. same_ends word other h (word_of q)) predicates

pub none_found : (word : Word) → length word < 1 → None ≡ predicate_of word
unfolding predicate_of
none_found [] h = refl
none_found (letter ∷ ls) h = absurd (omega (arith, h))

filter_none : (g : Predicate → Bool) → ((q : Predicate) → g q ≡ false) → (qs : List Predicate) → filter g qs ≡ []
filter_none g h [] = refl
filter_none g h (q ∷ qs) = rw (h q) (filter_none g h qs)

pub none_ends : (l : ℕ) → l ≢ 99 → l ≢ 101 → l ≢ 102 → l ≢ 108 → l ≢ 109 → l ≢ 110 → l ≢ 114 → l ≢ 115 → l ≢ 116 → l ≢ 119 → filter (ends_in l) predicates ≡ []
none_ends l c e f k m n r s t w = filter_none (ends_in l) each predicates
  where
    other : (i : ℕ) → l ≢ i → (i == l) ≡ false
    other i h = ne_eqb i l (λ d. h (sym d))

    each : (q : Predicate) → ends_in l q ≡ false
    each p.Tet = other 116 t
    each p.Cube = other 101 e
    each p.Dodec = other 99 c
    each p.Small = other 108 k
    each p.Medium = other 109 m
    each p.Large = other 101 e
    each p.SameSize = other 101 e
    each p.SameShape = other 101 e
    each p.SameRow = other 119 w
    each p.SameCol = other 108 k
    each p.Larger = other 114 r
    each p.Smaller = other 114 r
    each p.LeftOf = other 102 f
    each p.RightOf = other 102 f
    each p.FrontOf = other 102 f
    each p.BackOf = other 102 f
    each p.Adjoins = other 115 s
    each p.Between = other 110 n
