-- Among k1, k2, k3 and so on, one is always fresh.
use Rattle.std.proofs.Common.{◌≡◌, ◌≢◌, ℕ, zero, suc, ◌+◌, ◌-◌, ◌<◌, ◌≤◌, ◌^◌, List, [], ◌∷◌, length, map, filter, refl, ap, sym, ◌∙◌, subst, Bool, true, false, not, ◌||◌, inl, inr, ◌⊎◌, true≢false, Option, Some, None, arith}
use Rattle.std.specs.Prelude.{if◌then◌else◌}
use Rattle.std.specs.List.{find, range_with_len}
use Rattle.std.proofs.lemmas.Fmt.{decimal_injective}
use Rattle.fol_core.specs.Word.{Word}
use Rattle.fol_core.specs.declared.sent.Term.{Term, out-Term}
use Rattle.fol_core.specs.declared.sent.Term.TheVariants.{Name}
use Rattle.fol_core.specs.declared.sent.Term.TheOpen as t
use Rattle.fol_core.specs.Alike.{same_term}
use Rattle.fol_core.proofs.Terms.{out_name}
use Rattle.fol_core.proofs.TermEquality.{same_only}
use Rattle.tableau_laws.specs.Branch.{is_one_of}
use Rattle.tableau_laws.specs.Classes.{numbered, is_fresh, fresh}
use Rattle.tableau_laws.proofs.Lists.{Elem}
use Rattle.tableau_laws.proofs.Choosing.{or_cases, or_left}

abbrev others : Term → List Term → List Term
others n ws = filter (λ w. not (same_term w n)) ws

kept : (w : Term) (os : List Term) (b : Bool) → length (if not b then w ∷ os else os) ≤ suc (length os)
kept w os true = omega arith
kept w os false = omega arith

no_more : (n : Term) (ws : List Term) → length (others n ws) ≤ length ws
no_more n [] = omega arith
no_more n (w ∷ ws) = omega (arith, no_more n ws, kept w (others n ws) (same_term w n))

fewer_at : (n w : Term) (ws : List Term) (b : Bool) → (is_one_of n ws ≡ true → length (others n ws) < length ws) → length (others n ws) ≤ length ws → (b || is_one_of n ws) ≡ true → length (if not b then w ∷ others n ws else others n ws) < suc (length ws)
fewer_at n w ws true f g h = omega (arith, g)
fewer_at n w ws false f g h = omega (arith, f h)

fewer : (n : Term) (ws : List Term) → is_one_of n ws ≡ true → length (others n ws) < length ws
fewer n [] h = absurd (true≢false (sym h))
fewer n (w ∷ ws) h = fewer_at n w ws (same_term w n) (fewer n ws) (no_more n ws) h

still_at : (m n w : Term) (os : List Term) (b : Bool) → same_term w n ≡ b → m ≢ n → (same_term w m ≡ true) ⊎ (is_one_of m os ≡ true) → is_one_of m (if not b then w ∷ os else os) ≡ true
still_at m n w os true e d (inl h) = absurd (d (sym (same_only w m h) ∙ same_only w n e))
still_at m n w os true e d (inr h) = h
still_at m n w os false e d (inl h) = or_left (same_term w m) (is_one_of m os) h
still_at m n w os false e d (inr h) = last (same_term w m) h
  where
    last : (b : Bool) → is_one_of m os ≡ true → (b || is_one_of m os) ≡ true
    last true h = refl
    last false h = h

still : (m n : Term) (ws : List Term) → m ≢ n → is_one_of m ws ≡ true → is_one_of m (others n ws) ≡ true
still m n [] d h = h
still m n (w ∷ ws) d h = still_at m n w (others n ws) (same_term w n) refl d (elim (or_cases (same_term w m) (is_one_of m ws) h) [ inl e ↦ inl e | inr e ↦ inr (still m n ws d e) ])

word_tail : Word → Word
word_tail [] = []
word_tail (c ∷ cs) = cs

word_of : Term → Word
word_of u = elim (out-Term u) [ t.Name n ↦ n | _ ↦ [] ]

of_name : (n : Word) → word_of (Name n) ≡ n
unfolding word_of
of_name n = ap (λ w. elim w as (λ _. Word) [ t.Name m ↦ m | _ ↦ [] ]) (out_name n)

differ : (i j : ℕ) → i < j → j < 2 ^ 64 → Name (numbered j) ≢ Name (numbered i)
unfolding word_tail
differ i j h l = λ e. absurd (omega (arith, h, decimal_injective j i l (omega (arith, h, l)) (ap word_tail (sym (of_name (numbered j)) ∙ ap word_of e ∙ of_name (numbered i)))))

pigeon : (k i : ℕ) (ws : List Term) → ((j : ℕ) → i ≤ j → j < i + k → is_one_of (Name (numbered j)) ws ≡ true) → i + k < 2 ^ 64 → length ws < k → ⊥
pigeon zero i ws h l e = omega (arith, e)
pigeon (suc k) i ws h l e = pigeon k (i + 1) (others (Name (numbered i)) ws)
    (λ j a b. still (Name (numbered j)) (Name (numbered i)) ws (differ i j (omega (arith, a)) (omega (arith, b, l))) (h j (omega (arith, a)) (omega (arith, b))))
    (omega (arith, l)) (omega (arith, e, fewer (Name (numbered i)) ws (h i (omega arith) (omega arith))))

some_none : {X : Type 0} (x : X) → Some x ≢ None
some_none x = λ e. absurd (true≢false (ap is_some e))
  where
    is_some : {X : Type 0} → Option X → Bool
    is_some None = false
    is_some (Some x) = true

none_at : {X : Type 0} (test : X → Bool) (y : X) (rest : Option X) (b : Bool) → test y ≡ b → (if b then Some y else rest) ≡ None → (test y ≡ false) × (rest ≡ None)
none_at test y rest true e h = absurd (some_none y h)
none_at test y rest false e h = (e, h)

none_found : {X : Type 0} (test : X → Bool) (xs : List X) (x : X) → find test xs ≡ None → Elem xs x → test x ≡ false
none_found test [] x h m = absurd m
none_found test (y ∷ ys) x h (inl e) = subst (λ z. test z ≡ false) e (none_at test y (find test ys) (test y) refl h).0
none_found test (y ∷ ys) x h (inr m) = none_found test ys x (none_at test y (find test ys) (test y) refl h).1 m

in_range : (k i d : ℕ) → d < k → Elem (map numbered (range_with_len i k)) (numbered (i + d))
in_range zero i d h = absurd (omega (arith, h))
in_range (suc k) i zero h = inl (ap numbered (omega arith))
in_range (suc k) i (suc d) h = inr (subst (λ z. Elem (map numbered (range_with_len (i + 1) k)) (numbered z)) (omega arith) (in_range k (i + 1) d (omega (arith, h))))

in_range_at : (k i j : ℕ) → i ≤ j → j < i + k → Elem (map numbered (range_with_len i k)) (numbered j)
in_range_at k i j a b = subst (λ z. Elem (map numbered (range_with_len i k)) (numbered z)) (omega (arith, a)) (in_range k i (j - i) (omega (arith, a, b)))

not_not : (b : Bool) → not b ≡ false → b ≡ true
not_not true h = refl
not_not false h = sym h

pub some_fresh : (names : List Term) → length names + 2 < 2 ^ 64 → fresh names ≢ None
some_fresh names l = λ e. pigeon (suc (length names)) 1 names
    (λ j a b. not_not (is_one_of (Name (numbered j)) names) (none_found (is_fresh names) (map numbered (range_with_len 1 (suc (length names)))) (numbered j) e (in_range_at (suc (length names)) 1 j a b)))
    (omega (arith, l)) (omega arith)
