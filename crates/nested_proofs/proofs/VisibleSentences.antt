-- A line is visible by the levels of the lines between exactly where its sentence is in scope.
use Rattle.std.proofs.Common.{◌≡◌, ℕ, suc, ◌+◌, ◌-◌, ◌≤◌, ◌<◌, List, [], ◌∷◌, ◌++◌, length, map, take, drop, refl, ap, ap₂, sym, ◌∙◌, subst, Option, Some, None, Bool, true, false, arith, inl, inr, eq-eqb}
use Rattle.std.specs.Prelude.{nat_le, nat_lt, cond, ◌&&◌, ◌==◌, ◌⊎◌}
use Rattle.std.specs.List.{AllByRecursion}
use Rattle.std.proofs.lemmas.Bool.{lt-ltb, le-ltb, ne_eqb, eqb-true, ltb-true, ltb-false}
use Rattle.std.proofs.Math.Bool.{and-true}
use Rattle.std.proofs.lemmas.List.{map-append}
use Rattle.fol_core.specs.declared.sent.Sent.{Sent}
use Rattle.deriv_laws.specs.declared.line.FlatLine.{FlatLine}
use Rattle.nested_proofs.specs.Items.{Items, Done, Step, Sub, flatten, step_line, opening_line, size}
use Rattle.nested_proofs.specs.Scope.{prepend, sentence_at}
use Rattle.nested_proofs.specs.Placed.{Placed, Around, after_step, inside, after_sub, outside, placed, lines_of}
use Rattle.nested_proofs.specs.Levels.{level, depth_of, Mark, in_reach, Reach, reaches, numbered, sentences_of}
use Rattle.nested_proofs.specs.Visible.{stays, sentence_over, visible_sentence, SentencesByLevels}
use Rattle.nested_proofs.proofs.Levels.{sentences_same, flat_size}

abbrev pub mark_at : ℕ → List Mark → Option Mark
mark_at i [] = None
mark_at i (m ∷ ms) = cond (m.number == i) (Some m) (mark_at i ms)

abbrev pub keep_if : (Mark → Bool) → Option Mark → Option Mark
keep_if f None = None
keep_if f (Some m) = cond (f m) (Some m) None

-- the numbers fall, from below k
abbrev pub Falls : ℕ → List Mark → Type 0
Falls k [] = Unit {0}
Falls k (m ∷ ms) = (m.number < k) × Falls m.number ms

pub falls_up : (j k : ℕ) (ms : List Mark) → j ≤ k → Falls j ms → Falls k ms
falls_up j k [] h f = tt
falls_up j k (m ∷ ms) h f = (omega (arith, f.0), f.1)

pub none_below : (i : ℕ) (ms : List Mark) → Falls i ms → mark_at i ms ≡ None
none_below i [] f = refl
none_below i (m ∷ ms) f = ap (λ b. cond b (Some m) (mark_at i ms)) (ne_eqb m.number i (λ e. absurd (omega (arith, f.0, e)))) ∙ none_below i ms (falls_up m.number i ms (omega (arith, f.0)) f.1)

falls_kept_at : (rank : FlatLine → ℕ) (v k : ℕ) (m : Mark) (ms : List Mark) (b : Bool) → m.number < k → Falls m.number (in_reach rank v ms) → Falls k (cond b (m ∷ in_reach rank v ms) (in_reach rank v ms))
falls_kept_at rank v k m ms true h f = (h, f)
falls_kept_at rank v k m ms false h f = falls_up m.number k (in_reach rank v ms) (omega arith) f

falls_kept : (rank : FlatLine → ℕ) (v k : ℕ) (ms : List Mark) → Falls k ms → Falls k (in_reach rank v ms)
falls_kept rank v k [] f = tt
falls_kept rank v k (m ∷ ms) f = falls_kept_at rank v k m ms (nat_le (rank m.line) v) f.0 (falls_kept rank v m.number ms f.1)

mark_kept_at : (rank : FlatLine → ℕ) (i v : ℕ) (m : Mark) (ms : List Mark) (a b : Bool) → (m.number == i) ≡ a → nat_le (rank m.line) v ≡ b → Falls m.number ms →
    mark_at i (in_reach rank v ms) ≡ keep_if (λ x. nat_le (rank x.line) v) (mark_at i ms) →
    mark_at i (cond b (m ∷ in_reach rank v ms) (in_reach rank v ms)) ≡ keep_if (λ x. nat_le (rank x.line) v) (cond a (Some m) (mark_at i ms))
mark_kept_at rank i v m ms true true e h f ih = ap (λ b. cond b (Some m) (mark_at i (in_reach rank v ms))) e ∙ ap (λ b. cond b (Some m) None) (sym h)
mark_kept_at rank i v m ms true false e h f ih =
    ap (λ n. mark_at n (in_reach rank v ms)) (sym (eqb-true m.number i e)) ∙ none_below m.number (in_reach rank v ms) (falls_kept rank v m.number ms f) ∙ ap (λ b. cond b (Some m) None) (sym h)
mark_kept_at rank i v m ms false true e h f ih = ap (λ b. cond b (Some m) (mark_at i (in_reach rank v ms))) e ∙ ih
mark_kept_at rank i v m ms false false e h f ih = ih

mark_kept : (rank : FlatLine → ℕ) (i v k : ℕ) (ms : List Mark) → Falls k ms → mark_at i (in_reach rank v ms) ≡ keep_if (λ x. nat_le (rank x.line) v) (mark_at i ms)
mark_kept rank i v k [] f = refl
mark_kept rank i v k (m ∷ ms) f = mark_kept_at rank i v m ms (m.number == i) (nat_le (rank m.line) v) refl refl f.1 (mark_kept rank i v m.number ms f.1)

keep_both_at : (f : Mark → Bool) (m : Mark) (b : Bool) → keep_if f (cond b (Some m) None) ≡ cond (b && f m) (Some m) None
keep_both_at f m true = refl
keep_both_at f m false = refl

keep_again : (f g : Mark → Bool) (o : Option Mark) → keep_if f (keep_if g o) ≡ keep_if (λ m. g m && f m) o
keep_again f g None = refl
keep_again f g (Some m) = keep_both_at f m (g m)

keep_same : (f g : Mark → Bool) → ((m : Mark) → f m ≡ g m) → (o : Option Mark) → keep_if f o ≡ keep_if g o
keep_same f g h None = refl
keep_same f g h (Some m) = ap (λ b. cond b (Some m) None) (h m)

unfoldable pub from_line : (FlatLine → ℕ) → ℕ → List FlatLine → List FlatLine → ℕ → Option Mark
from_line rank i [] more n = None
from_line rank i (l ∷ ls) more n = cond (nat_lt i n && stays (rank l) (take (n - i) ls)) (Some (record { number = i; line = l; later = ls ++ more })) None

-- the mark of line i that is in reach of line n, by the levels of the lines between
unfoldable pub look : (FlatLine → ℕ) → ℕ → ℕ → List Mark → List FlatLine → List FlatLine → ℕ → Option Mark
unfolding from_line
look rank i k ms ls more n = cond (nat_lt i k) (keep_if (λ m. stays (rank m.line) (take (n + 1 - k) ls)) (mark_at i ms)) (from_line rank i (drop (i - k) ls) more n)

pub three : (i k : ℕ) → (i < k) ⊎ (k ≤ i)
three i k = go (nat_lt i k) refl
  where
    go : (b : Bool) → nat_lt i k ≡ b → (i < k) ⊎ (k ≤ i)
    go true e = inl (ltb-true i k e)
    go false e = inr (ltb-false i k e)

not_later : (rank : FlatLine → ℕ) (i n : ℕ) (ls more : List FlatLine) → n ≤ i → from_line rank i ls more n ≡ None
unfolding from_line
not_later rank i n [] more h = refl
not_later rank i n (l ∷ ls) more h = ap (λ b. cond (b && stays (rank l) (take (n - i) ls)) (Some (record { number = i; line = l; later = ls ++ more })) None) (le-ltb i n h)

head_look : (rank : FlatLine → ℕ) (i k : ℕ) (ms : List Mark) (l : FlatLine) (ls more : List FlatLine) → Falls k ms → (i < k) ⊎ (k ≤ i) →
    mark_at i (in_reach rank (level l) ms) ≡ look rank i k ms (l ∷ ls) more k
unfolding look
head_look rank i k ms l ls more f (inl h) =
    mark_kept rank i (level l) k ms f
    ∙ keep_same (λ m. nat_le (rank m.line) (level l)) (λ m. nat_le (rank m.line) (level l) && true) (λ m. sym (and-true (nat_le (rank m.line) (level l)))) (mark_at i ms)
    ∙ ap (λ n. keep_if (λ m. stays (rank m.line) (take n (l ∷ ls))) (mark_at i ms)) (let e : 1 ≡ k + 1 - k = omega arith in e)
    ∙ sym (ap (λ b. cond b (keep_if (λ m. stays (rank m.line) (take (k + 1 - k) (l ∷ ls))) (mark_at i ms)) (from_line rank i (drop (i - k) (l ∷ ls)) more k)) (lt-ltb i k h))
head_look rank i k ms l ls more f (inr h) =
    none_below i (in_reach rank (level l) ms) (falls_kept rank (level l) i ms (falls_up k i ms h f))
    ∙ sym (not_later rank i k (drop (i - k) (l ∷ ls)) more h)
    ∙ sym (ap (λ b. cond b (keep_if (λ m. stays (rank m.line) (take (k + 1 - k) (l ∷ ls))) (mark_at i ms)) (from_line rank i (drop (i - k) (l ∷ ls)) more k)) (le-ltb i k h))

step_look : (rank : FlatLine → ℕ) (i k n : ℕ) (ms : List Mark) (l : FlatLine) (ls more : List FlatLine) → Falls k ms → k < n → (i < k) ⊎ (i ≡ k) ⊎ (k < i) →
    look rank i (k + 1) (record { number = k; line = l; later = ls ++ more } ∷ in_reach rank (level l) ms) ls more n ≡ look rank i k ms (l ∷ ls) more n
unfolding look from_line
step_look rank i k n ms l ls more f h (inl w) =
    let m : Mark = record { number = k; line = l; later = ls ++ more } in
    let kept : List Mark = in_reach rank (level l) ms in
    let g : Mark → Bool = λ x. stays (rank x.line) (take (n + 1 - (k + 1)) ls) in
    ap (λ b. cond b (keep_if g (mark_at i (m ∷ kept))) (from_line rank i (drop (i - (k + 1)) ls) more n)) (lt-ltb i (k + 1) (omega arith))
    ∙ ap (λ b. keep_if g (cond b (Some m) (mark_at i kept))) (ne_eqb k i (λ e. absurd (omega (arith, e))))
    ∙ ap (keep_if g) (mark_kept rank i (level l) k ms f)
    ∙ keep_again g (λ x. nat_le (rank x.line) (level l)) (mark_at i ms)
    ∙ ap (λ c. keep_if (λ x. stays (rank x.line) (take c (l ∷ ls))) (mark_at i ms)) (let e : suc (n + 1 - (k + 1)) ≡ n + 1 - k = omega arith in e)
    ∙ sym (ap (λ b. cond b (keep_if (λ x. stays (rank x.line) (take (n + 1 - k) (l ∷ ls))) (mark_at i ms)) (from_line rank i (drop (i - k) (l ∷ ls)) more n)) (lt-ltb i k w))
step_look rank i k n ms l ls more f h (inr (inl w)) =
    let m : Mark = record { number = k; line = l; later = ls ++ more } in
    let kept : List Mark = in_reach rank (level l) ms in
    let g : Mark → Bool = λ x. stays (rank x.line) (take (n + 1 - (k + 1)) ls) in
    let s : ℕ → Bool = λ c. stays (rank l) (take c ls) in
    ap (λ b. cond b (keep_if g (mark_at i (m ∷ kept))) (from_line rank i (drop (i - (k + 1)) ls) more n)) (lt-ltb i (k + 1) (omega (arith, w)))
    ∙ ap (λ b. keep_if g (cond b (Some m) (mark_at i kept))) (eq-eqb k i (sym w))
    ∙ ap (λ c. cond (s c) (Some m) None) (let e : n + 1 - (k + 1) ≡ n - i = omega (arith, w) in e)
    ∙ ap (λ (c : ℕ). cond (s (n - i)) (Some (let x : Mark = record { number = c; line = l; later = ls ++ more } in x)) None) (sym w)
    ∙ sym (ap (λ b. cond (b && s (n - i)) (Some (let x : Mark = record { number = i; line = l; later = ls ++ more } in x)) None) (lt-ltb i n (omega (arith, w))))
    ∙ sym (ap (λ c. from_line rank i (drop c (l ∷ ls)) more n) (let e : i - k ≡ 0 = omega (arith, w) in e))
    ∙ sym (ap (λ b. cond b (keep_if (λ x. stays (rank x.line) (take (n + 1 - k) (l ∷ ls))) (mark_at i ms)) (from_line rank i (drop (i - k) (l ∷ ls)) more n)) (le-ltb i k (omega (arith, w))))
step_look rank i k n ms l ls more f h (inr (inr w)) =
    let m : Mark = record { number = k; line = l; later = ls ++ more } in
    let kept : List Mark = in_reach rank (level l) ms in
    ap (λ b. cond b (keep_if (λ x. stays (rank x.line) (take (n + 1 - (k + 1)) ls)) (mark_at i (m ∷ kept))) (from_line rank i (drop (i - (k + 1)) ls) more n)) (le-ltb i (k + 1) (omega arith))
    ∙ ap (λ c. from_line rank i (drop c (l ∷ ls)) more n) (let e : suc (i - (k + 1)) ≡ i - k = omega arith in e)
    ∙ sym (ap (λ b. cond b (keep_if (λ x. stays (rank x.line) (take (n + 1 - k) (l ∷ ls))) (mark_at i ms)) (from_line rank i (drop (i - k) (l ∷ ls)) more n)) (le-ltb i k (omega arith)))

which : (i k : ℕ) → (i < k) ⊎ (i ≡ k) ⊎ (k < i)
which i k = go (three i k) (three k i)
  where
    go : (i < k) ⊎ (k ≤ i) → (k < i) ⊎ (i ≤ k) → (i < k) ⊎ (i ≡ k) ⊎ (k < i)
    go (inl a) b = inl a
    go (inr a) (inl b) = inr (inr b)
    go (inr a) (inr b) = inr (inl (omega arith))

pub both_turn : {X : Type 0} (P Q R : X → Type 0) (f : (x : X) → P x → Q x → R x) (xs : List X) → AllByRecursion P xs → AllByRecursion Q xs → AllByRecursion R xs
both_turn P Q R f [] h k = tt
both_turn P Q R f (x ∷ xs) h k = (f x h.0 k.0, both_turn P Q R f xs h.1 k.1)

numbers_from : (rank : FlatLine → ℕ) (j k : ℕ) (ms : List Mark) (ls more : List FlatLine) → j ≤ k → AllByRecursion (λ (r : Reach). j ≤ r.number) (reaches rank k ms ls more)
numbers_from rank j k ms [] more h = tt
numbers_from rank j k ms (l ∷ ls) more h = (h, numbers_from rank j (k + 1) (record { number = k; line = l; later = ls ++ more } ∷ in_reach rank (level l) ms) ls more (omega arith))

pub all_fall : (rank : FlatLine → ℕ) (k : ℕ) (ms : List Mark) (ls more : List FlatLine) → Falls k ms → AllByRecursion (λ (r : Reach). Falls r.number r.marks) (reaches rank k ms ls more)
all_fall rank k ms [] more f = tt
all_fall rank k ms (l ∷ ls) more f =
    let g : Falls k (in_reach rank (level l) ms) = falls_kept rank (level l) k ms f in
    (g, all_fall rank (k + 1) (record { number = k; line = l; later = ls ++ more } ∷ in_reach rank (level l) ms) ls more (omega arith, g))

-- what is in reach is what the levels between let through
pub all_look : (rank : FlatLine → ℕ) (i k : ℕ) (ms : List Mark) (ls more : List FlatLine) → Falls k ms → AllByRecursion (λ (r : Reach). mark_at i r.marks ≡ look rank i k ms ls more r.number) (reaches rank k ms ls more)
all_look rank i k ms [] more f = tt
all_look rank i k ms (l ∷ ls) more f =
    let m : Mark = record { number = k; line = l; later = ls ++ more } in
    let kept : List Mark = in_reach rank (level l) ms in
    let g : Falls (k + 1) (m ∷ kept) = (omega arith, falls_kept rank (level l) k ms f) in (
      head_look rank i k ms l ls more f (three i k),
      both_turn (λ (r : Reach). k + 1 ≤ r.number) (λ (r : Reach). mark_at i r.marks ≡ look rank i (k + 1) (m ∷ kept) ls more r.number) (λ (r : Reach). mark_at i r.marks ≡ look rank i k ms (l ∷ ls) more r.number)
          (λ r a b. b ∙ step_look rank i k r.number ms l ls more f (omega (arith, a)) (which i k)) (reaches rank (k + 1) (m ∷ kept) ls more)
          (numbers_from rank (k + 1) (k + 1) (m ∷ kept) ls more (omega arith)) (all_look rank i (k + 1) (m ∷ kept) ls more g),
    )

sentence_of : Option Mark → Option Sent
sentence_of None = None
sentence_of (Some m) = m.line.sentence

sentence_of_mark : (i : ℕ) (m : Mark) (ms : List Mark) (o : Option Sent) (b : Bool) → m.line.sentence ≡ o → (m.number == i) ≡ b → Falls m.number ms →
    sentence_at i (sentences_of ms) ≡ sentence_of (mark_at i ms) →
    sentence_at i (prepend (numbered m.number o) (sentences_of ms)) ≡ sentence_of (cond b (Some m) (mark_at i ms))
unfolding sentence_of
sentence_of_mark i m ms (Some s) true e h f ih = ap (λ b. cond b (Some s) (sentence_at i (sentences_of ms))) h ∙ sym e
sentence_of_mark i m ms (Some s) false e h f ih = ap (λ b. cond b (Some s) (sentence_at i (sentences_of ms))) h ∙ ih
sentence_of_mark i m ms None true e h f ih = ih ∙ ap (λ n. sentence_of (mark_at n ms)) (sym (eqb-true m.number i h)) ∙ ap sentence_of (none_below m.number ms f) ∙ sym e
sentence_of_mark i m ms None false e h f ih = ih

sentence_marked : (i k : ℕ) (ms : List Mark) → Falls k ms → sentence_at i (sentences_of ms) ≡ sentence_of (mark_at i ms)
unfolding sentence_of
sentence_marked i k [] f = refl
sentence_marked i k (m ∷ ms) f = sentence_of_mark i m ms m.line.sentence (m.number == i) refl refl f.1 (sentence_marked i m.number ms f.1)

-- from one list to another, by what is seen of their items
pub carry : {X Y Z : Type 0} (n : X → ℕ) (o : Y → ℕ) (F : X → Z) (G : Y → Z) (Q : ℕ → Z → Type 0) (xs : List X) (ys : List Y) → map n xs ≡ map o ys → map F xs ≡ map G ys →
    AllByRecursion (λ x. Q (n x) (F x)) xs → AllByRecursion (λ y. Q (o y) (G y)) ys
carry n o F G Q [] [] e f h = tt
carry n o F G Q [] (y ∷ ys) e f h = cc
carry n o F G Q (x ∷ xs) [] e f h = cc
carry n o F G Q (x ∷ xs) (y ∷ ys) e f h =
    let a : n x ≡ o y = cc in
    let b : F x ≡ G y = cc in
    let c : map n xs ≡ map o ys = cc in
    let d : map F xs ≡ map G ys = cc in
    (subst (λ k. Q k (G y)) a (subst (λ z. Q (n x) z) b h.0), carry n o F G Q xs ys c d h.1)

over_line : (i n : ℕ) (ls : List FlatLine) → sentence_of (from_line depth_of i ls [] n) ≡ cond (nat_lt i n) (sentence_over ls (n - i)) None
unfolding sentence_of from_line
over_line i n [] = go (nat_lt i n)
  where
    go : (b : Bool) → None ≡ cond b (sentence_over [] (n - i)) None
    go true = refl
    go false = refl
over_line i n (l ∷ ls) = go (nat_lt i n) (stays l.depth (take (n - i) ls))
  where
    go : (a b : Bool) → sentence_of (cond (a && b) (Some (let x : Mark = record { number = i; line = l; later = ls ++ [] } in x)) None) ≡ cond a (cond b l.sentence None) None
    go true true = refl
    go true false = refl
    go false b = refl

reach_sentences : (i : ℕ) (lines : List FlatLine) → 0 < i → AllByRecursion (λ (r : Reach). sentence_at i (sentences_of r.marks) ≡ visible_sentence lines i r.number) (reaches depth_of 1 [] lines [])
unfolding look
reach_sentences i lines h =
    both_turn (λ (r : Reach). Falls r.number r.marks) (λ (r : Reach). mark_at i r.marks ≡ look depth_of i 1 [] lines [] r.number) (λ (r : Reach). sentence_at i (sentences_of r.marks) ≡ visible_sentence lines i r.number)
    (λ r f e. sentence_marked i r.number r.marks f ∙ ap sentence_of e
    ∙ ap (λ b. sentence_of (cond b (keep_if (λ x. stays (depth_of x.line) (take (r.number + 1 - 1) lines)) None) (from_line depth_of i (drop (i - 1) lines) [] r.number))) (le-ltb i 1 (omega arith))
    ∙ over_line i r.number (drop (i - 1) lines)) (reaches depth_of 1 [] lines [])
    (all_fall depth_of 1 [] lines [] tt) (all_look depth_of i 1 [] lines [] tt)

-- the numbers of the lines, from k
unfoldable pub numbers : ℕ → List FlatLine → List ℕ
numbers k [] = []
numbers k (l ∷ ls) = k ∷ numbers (k + 1) ls

pub numbers_append : (k : ℕ) (xs ys : List FlatLine) → numbers k (xs ++ ys) ≡ numbers k xs ++ numbers (k + length xs) ys
unfolding numbers
numbers_append k [] ys = ap (λ n. numbers n ys) (let e : k ≡ k + 0 = omega arith in e)
numbers_append k (x ∷ xs) ys = ap (λ ns. k ∷ ns) (numbers_append (k + 1) xs ys ∙ ap (λ n. numbers (k + 1) xs ++ numbers n ys) (let e : k + 1 + length xs ≡ k + suc (length xs) = omega arith in e))

pub reach_numbers : (rank : FlatLine → ℕ) (k : ℕ) (ms : List Mark) (ls more : List FlatLine) → map (λ (r : Reach). r.number) (reaches rank k ms ls more) ≡ numbers k ls
unfolding numbers
reach_numbers rank k ms [] more = refl
reach_numbers rank k ms (l ∷ ls) more = ap (λ ns. k ∷ ns) (reach_numbers rank (k + 1) (record { number = k; line = l; later = ls ++ more } ∷ in_reach rank (level l) ms) ls more)

pub placed_numbers : (items : Items) (a : Around) (k d : ℕ) → map (λ (x : Placed). x.number) (placed a k d items) ≡ numbers k (flatten d items)
unfolding numbers
placed_numbers Done a k d = refl
placed_numbers (Step s rule cites rest) a k d = ap (λ ns. k ∷ ns) (placed_numbers rest (after_step k s a) (k + 1) d)
placed_numbers (Sub op body rest) a k d =
    ap (λ ns. k ∷ ns) (map-append (λ (x : Placed). x.number) (placed (inside k op a) (k + 1) (d + 1) body) (placed (after_sub k op body a) (k + 1 + size body) d rest)
    ∙ ap₂ ◌++◌ (placed_numbers body (inside k op a) (k + 1) (d + 1))
    (placed_numbers rest (after_sub k op body a) (k + 1 + size body) d ∙ ap (λ n. numbers (k + 1 + n) (flatten d rest)) (sym (flat_size (d + 1) body)))
    ∙ sym (numbers_append (k + 1) (flatten (d + 1) body) (flatten d rest)))

-- the placed lines are the flattening
pub placed_lines : (items : Items) (a : Around) (k d : ℕ) → map (λ (x : Placed). x.line) (placed a k d items) ≡ flatten d items
placed_lines Done a k d = refl
placed_lines (Step s rule cites rest) a k d = ap (λ ls. step_line d s rule cites ∷ ls) (placed_lines rest (after_step k s a) (k + 1) d)
placed_lines (Sub op body rest) a k d =
    ap (λ ls. opening_line (d + 1) op ∷ ls) (map-append (λ (x : Placed). x.line) (placed (inside k op a) (k + 1) (d + 1) body) (placed (after_sub k op body a) (k + 1 + size body) d rest)
    ∙ ap₂ ◌++◌ (placed_lines body (inside k op a) (k + 1) (d + 1)) (placed_lines rest (after_sub k op body a) (k + 1 + size body) d))

pub visible_is_in_scope : SentencesByLevels
visible_is_in_scope p i o h =
    carry (λ (r : Reach). r.number) (λ (x : Placed). x.number) (λ r. sentences_of r.marks) (λ x. x.around.scope.sentences) (λ j xs. sentence_at i xs ≡ visible_sentence (flatten 1 p) i j)
    (reaches depth_of 1 [] (flatten 1 p) []) (lines_of p)
    (reach_numbers depth_of 1 [] (flatten 1 p) [] ∙ sym (placed_numbers p outside 1 1))
    (sentences_same p 1 1 outside [] [] o refl) (reach_sentences i (flatten 1 p) h)
