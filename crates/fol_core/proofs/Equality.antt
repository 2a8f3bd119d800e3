-- Sentences that are alike where a term is replaced by itself are equal, and each is so to itself.
use Rattle.std.proofs.Common.{◌≡◌, ℕ, List, [], ◌∷◌, map, refl, ap, ap₂, sym, ◌∙◌, subst, Bool, true, false, rules, true≢false}
use Rattle.std.proofs.lemmas.Bool.{and_parts}
use Rattle.std.specs.Prelude.{◌&&◌}
use Rattle.std.specs.Str.{bytes_eq}
use Rattle.fol_core.specs.declared.sent.Term.{Term}
use Rattle.fol_core.specs.declared.sent.Term.TheVariants.{Name}
use Rattle.fol_core.specs.declared.sent.Sent.{Sent, out-Sent, roll-Sent, roll-out-Sent, the_lemmas}
use Rattle.fol_core.specs.declared.sent.Sent.TheOpen.{Sent-F}
use Rattle.fol_core.specs.declared.sent.Sent.TheOpen as f
use Rattle.fol_core.specs.declared.sent.Sent.TheFolds.{ind-Sent, fold-roll-Sent, map-Sent}
use Rattle.fol_core.specs.Word.{Word}
use Rattle.fol_core.specs.Alike.{repl, repl_step, repl_term, pairwise, all_pairs}
use Rattle.fol_core.proofs.TermEquality.{bytes_same as bytes_alike, word_same as word_alike, repl_term_refl, repl_term_same}

-- Whatever name is replaced by whatever other, none of its occurrences may be.
abbrev IsAlike : Term → Term → Sent → Type 0
IsAlike n m p = repl n m p p ≡ true

abbrev Itself : Term → Term → Type 0
Itself n m = (p : Sent) × IsAlike n m p

both : (a b : Bool) → a ≡ true → b ≡ true → (a && b) ≡ true
both a b e f = ap₂ ◌&&◌ e f

-- A word is the same as itself, byte by byte.
pub bytes_same : (xs : List ℕ) → bytes_eq xs xs ≡ true
bytes_same = bytes_alike

terms_alike : (n m : Term) (ts : List Term) → all_pairs (repl_term n m) ts ts ≡ true
terms_alike n m [] = refl
terms_alike n m (t ∷ ts) = both _ _ (repl_term_refl n m t) (terms_alike n m ts)

parts_alike : (n m : Term) (es : List (Itself n m)) → pairwise (map (repl n m) (map (λ (e : Itself n m). e.0) es)) (map (λ (e : Itself n m). e.0) es) ≡ true
parts_alike n m [] = refl
parts_alike n m (e ∷ es) = both _ _ e.1 (parts_alike n m es)

abbrev bare : (n m : Term) → Sent-F (Itself n m) → Sent-F Sent
bare n m = map-Sent (Itself n m) Sent (λ e. e.0)

step_alike : (n m : Term) (y : Sent-F (Itself n m)) → repl_step n m (map-Sent Sent (Sent → Bool) (repl n m) (bare n m y)) (bare n m y) ≡ true
step_alike n m (f.Atom p ts) = both _ _ (bytes_same p) (terms_alike n m ts)
step_alike n m (f.Eq a b) = both _ _ (repl_term_refl n m a) (repl_term_refl n m b)
step_alike n m f.Bottom = refl
step_alike n m (f.Not e) = e.1
step_alike n m (f.And es) = parts_alike n m es
step_alike n m (f.Or es) = parts_alike n m es
step_alike n m (f.If d e) = both _ _ d.1 e.1
step_alike n m (f.Iff d e) = both _ _ d.1 e.1
step_alike n m (f.All v e) = both _ _ (bytes_same v) e.1
step_alike n m (f.Ex v e) = both _ _ (bytes_same v) e.1

out_roll : (m : Sent-F Sent) → out-Sent (roll-Sent m) ≡ m
out_roll m = search (rules, the_lemmas)

-- A sentence comes from itself by replacing no occurrence.
pub repl_refl : (n m : Term) (s : Sent) → repl n m s s ≡ true
repl_refl n m = ind-Sent (IsAlike n m) (λ l y is.
    subst (λ (w : Sent-F Sent). IsAlike n m (roll-Sent w)) is
    (ap (λ (g : Sent → Bool). g (roll-Sent (bare n m y))) (fold-roll-Sent (Sent → Bool) (λ x q. repl_step n m x (out-Sent q)) (bare n m y))
    ∙ ap (λ w. repl_step n m (map-Sent Sent (Sent → Bool) (repl n m) (bare n m y)) w) (out_roll (bare n m y)) ∙ step_alike n m y))

-- Each sentence is alike to itself where no term is replaced by another.
pub alike_refl : (s : Sent) → repl (Name []) (Name []) s s ≡ true
alike_refl = repl_refl (Name []) (Name [])

abbrev stepper : Term → Sent-F (Sent → Bool) → Sent → Bool
stepper r x q = repl_step r r x (out-Sent q)

-- Words that are the same byte by byte are equal.
pub word_same : (xs ys : Word) → bytes_eq xs ys ≡ true → xs ≡ ys
word_same = word_alike

terms_same : (r : Term) (ts us : List Term) → all_pairs (repl_term r r) ts us ≡ true → ts ≡ us
terms_same r [] [] h = refl
terms_same r (t ∷ ts) (u ∷ us) h = let w = and_parts (repl_term r r t u) (all_pairs (repl_term r r) ts us) h in ap₂ ◌∷◌ (repl_term_same r t u w.0) (terms_same r ts us w.1)
terms_same r [] (u ∷ us) h = absurd (true≢false (sym h))
terms_same r (t ∷ ts) [] h = absurd (true≢false (sym h))

-- Nothing else is alike to the sentence.
abbrev pub IsOnly : Term → Sent → Type 0
IsOnly r p = (q : Sent) → repl r r p q ≡ true → p ≡ q

abbrev Alone : Term → Type 0
Alone r = (p : Sent) × IsOnly r p

parts_same : (r : Term) (es : List (Alone r)) (qs : List Sent) → pairwise (map (repl r r) (map (λ (e : Alone r). e.0) es)) qs ≡ true → map (λ (e : Alone r). e.0) es ≡ qs
parts_same r [] [] h = refl
parts_same r (e ∷ es) (q ∷ qs) h = let w = and_parts (repl r r e.0 q) (pairwise (map (repl r r) (map (λ (e : Alone r). e.0) es)) qs) h in ap₂ ◌∷◌ (e.1 q w.0) (parts_same r es qs w.1)
parts_same r [] (q ∷ qs) h = absurd (true≢false (sym h))
parts_same r (e ∷ es) [] h = absurd (true≢false (sym h))

abbrev shown : (r : Term) → Sent-F (Alone r) → Sent-F Sent
shown r = map-Sent (Alone r) Sent (λ e. e.0)

step_same : (r : Term) (y : Sent-F (Alone r)) (w : Sent-F Sent) → repl_step r r (map-Sent Sent (Sent → Bool) (repl r r) (shown r y)) w ≡ true → shown r y ≡ w
step_same r (f.Atom p ts) (f.Atom q us) h = let w = and_parts (bytes_eq p q) (all_pairs (repl_term r r) ts us) h in ap₂ f.Atom (word_same p q w.0) (terms_same r ts us w.1)
step_same r (f.Eq a b) (f.Eq c d) h = let w = and_parts (repl_term r r a c) (repl_term r r b d) h in ap₂ f.Eq (repl_term_same r a c w.0) (repl_term_same r b d w.1)
step_same r f.Bottom f.Bottom h = refl
step_same r (f.Not e) (f.Not q) h = ap f.Not (e.1 q h)
step_same r (f.And es) (f.And qs) h = ap f.And (parts_same r es qs h)
step_same r (f.Or es) (f.Or qs) h = ap f.Or (parts_same r es qs h)
step_same r (f.If d e) (f.If q z) h = let w = and_parts (repl r r d.0 q) (repl r r e.0 z) h in ap₂ f.If (d.1 q w.0) (e.1 z w.1)
step_same r (f.Iff d e) (f.Iff q z) h = let w = and_parts (repl r r d.0 q) (repl r r e.0 z) h in ap₂ f.Iff (d.1 q w.0) (e.1 z w.1)
step_same r (f.All v e) (f.All u q) h = let w = and_parts (bytes_eq v u) (repl r r e.0 q) h in ap₂ f.All (word_same v u w.0) (e.1 q w.1)
step_same r (f.Ex v e) (f.Ex u q) h = let w = and_parts (bytes_eq v u) (repl r r e.0 q) h in ap₂ f.Ex (word_same v u w.0) (e.1 q w.1)
step_same r _ _ h = absurd (true≢false (sym h))

-- Sentences that are alike where a term is replaced by itself are equal.
pub repl_same : (r : Term) (p : Sent) → IsOnly r p
repl_same r = ind-Sent (IsOnly r) (λ l y is.
    subst (λ (w : Sent-F Sent). IsOnly r (roll-Sent w)) is (λ q h.
    ap roll-Sent (step_same r y (out-Sent q) (sym (ap (λ (g : Sent → Bool). g q) (fold-roll-Sent (Sent → Bool) (stepper r) (shown r y))) ∙ h))
    ∙ roll-out-Sent q))

pub alike_same : (p : Sent) → IsOnly (Name []) p
alike_same = repl_same (Name [])
