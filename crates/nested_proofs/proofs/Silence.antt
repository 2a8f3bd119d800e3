-- A constant around a line: what the marks in reach of the line say of it, and what the lines before say.
use Rattle.std.proofs.Common.{◌≡◌, ℕ, zero, suc, ◌+◌, ◌-◌, ◌<◌, ◌≤◌, min, Bool, true, false, not, cond, List, [], ◌∷◌, ◌++◌, length, drop, map, get_or, refl, sym, ap, subst, ◌∙◌, arith, Option, Some, None, inl, inr, ◌⊎◌, IsTrue}
use Rattle.std.specs.Prelude.{slice_get, nat_le, ◌&&◌, ◌||◌, Contains, ◌↔◌}
use Rattle.std.specs.List.{AllByRecursion, list_any}
use Rattle.std.specs.Str.{bytes_eq}
use Rattle.std.proofs.lemmas.Option.{slice_get-get_or}
use Rattle.fol_core.specs.declared.sent.Sent.{Sent}
use Rattle.fol_core.specs.Word.{Word}
use Rattle.fol_core.specs.Subst.{occurs}
use Rattle.deriv_laws.specs.declared.line.FlatLine.{FlatLine}
use Rattle.deriv_laws.proofs.Members.{contains_here, contains_there, contains_cases}
use Rattle.nested_proofs.specs.Items.{Items, opens, flatten, AreProper}
use Rattle.nested_proofs.specs.Scope.{Numbered, prepend}
use Rattle.nested_proofs.specs.Placed.{Placed, lines_of, outside}
use Rattle.nested_proofs.specs.Levels.{level, depth_of, Mark, in_reach, Reach, reaches, numbered, sentences_of, boxes_of}
use Rattle.nested_proofs.specs.Hearing.{states_name, is_word, speaks_of, silent_before, silent}
use Rattle.nested_proofs.proofs.Levels.{kept_up, kept_twice, sentences_same}
use Rattle.nested_proofs.proofs.BoxLevels.{boxes_by_levels}
use Rattle.nested_proofs.proofs.VisibleSentences.{reach_numbers, placed_numbers, both_turn}
use Rattle.nested_proofs.proofs.Reading.{Agrees, agrees, at_line, where_agrees}
use Rattle.nested_proofs.specs.AtLine.{AtLine}
use Rattle.nested_proofs.specs.Fresh.{IsFresh, HasFreshBox}
use Rattle.deriv_laws.proofs.Lists.{all_turn}
use Rattle.fol_core.proofs.Equality.{bytes_same, word_same}

-- none of the marked lines speaks of c
abbrev quiet : Word → List Mark → Bool
quiet c [] = true
quiet c (m ∷ ms) = cond (speaks_of c m.line) false (quiet c ms)

quiet_kept : (c : Word) (v : ℕ) (m : Mark) (ms : List Mark) → quiet c (in_reach depth_of v (m ∷ ms)) ≡ cond (nat_le m.line.depth v && speaks_of c m.line) false (quiet c (in_reach depth_of v ms))
quiet_kept c v m ms = go (nat_le m.line.depth v)
  where
    go : (b : Bool) → quiet c (cond b (m ∷ in_reach depth_of v ms) (in_reach depth_of v ms)) ≡ cond (b && speaks_of c m.line) false (quiet c (in_reach depth_of v ms))
    go true = refl
    go false = refl

kept_by_both : (v u : ℕ) (ms : List Mark) → in_reach depth_of v (in_reach depth_of u ms) ≡ in_reach depth_of (min v u) ms
kept_by_both v u ms = go (which v u)
  where
    which : (v u : ℕ) → (v ≤ u) ⊎ (u ≤ v)
    which v u = grind arith

    go : (v ≤ u) ⊎ (u ≤ v) → in_reach depth_of v (in_reach depth_of u ms) ≡ in_reach depth_of (min v u) ms
    go (inl h) = kept_twice depth_of v u ms h ∙ ap (λ w. in_reach depth_of w ms) (let e : v ≡ min v u = omega arith in e)
    go (inr h) = kept_up depth_of u v ms h ∙ ap (λ w. in_reach depth_of w ms) (let e : u ≡ min v u = omega arith in e)

-- one line back
pub steps_back : (c : Word) (ls : List FlatLine) (n v : ℕ) (l : FlatLine) → 0 < n → n ≤ length ls → l ≡ get_or ls (n - 1) l →
    silent c ls n v ≡ cond (nat_le l.depth v && speaks_of c l) false (silent c ls (n - 1) (min v (level l)))
steps_back c ls zero v l h w e = absurd (omega (arith, h))
steps_back c ls (suc k) v l h w e =
    let q : suc k - 1 ≡ k = omega arith in
    ap (silent_before c v (silent c ls k)) (slice_get-get_or ls k l (omega (arith, w)) ∙ ap Some (sym (e ∙ ap (λ i. get_or ls i l) q)))
    ∙ ap (λ i. cond (nat_le l.depth v && speaks_of c l) false (silent c ls i (min v (level l)))) (sym q)

pub passes_on : (c : Word) (ls : List FlatLine) (n v : ℕ) (l : FlatLine) → 0 < n → n ≤ length ls → l ≡ get_or ls (n - 1) l → (nat_le l.depth v && speaks_of c l) ≡ false →
    silent c ls n v ≡ silent c ls (n - 1) (min v (level l))
passes_on c ls n v l h w e f = steps_back c ls n v l h w e ∙ ap (λ b. cond b false (silent c ls (n - 1) (min v (level l)))) f

-- the lines from k on
front : (all ls : List FlatLine) (n : ℕ) (l : FlatLine) → drop n all ≡ l ∷ ls → (slice_get all n ≡ Some l) × (drop (suc n) all ≡ ls)
front [] ls zero l e = cc
front [] ls (suc n) l e = cc
front (x ∷ all) ls zero l e = (let q : x ≡ l = cc in ap Some q, let q : all ≡ ls = cc in q)
front (x ∷ all) ls (suc n) l e = front all ls n l e

-- what is in reach of the line says what the lines before it say
abbrev Hears : Word → List FlatLine → Reach → Type 0
Hears c all r = (l : FlatLine) → slice_get all (r.number - 1) ≡ Some l → quiet c r.marks ≡ silent c all (r.number - 1) (level l)

hears : (c : Word) (all : List FlatLine) (n k : ℕ) (ms : List Mark) (ls : List FlatLine) → k ≡ suc n → drop n all ≡ ls →
    ((v : ℕ) → quiet c (in_reach depth_of v ms) ≡ silent c all n v) → AllByRecursion (Hears c all) (reaches depth_of k ms ls [])
hears c all n k ms [] e d h = tt
hears c all n k ms (l ∷ ls) e d h =
    let f : (slice_get all n ≡ Some l) × (drop (suc n) all ≡ ls) = front all ls n l d in
    let p : k - 1 ≡ n = omega (arith, e) in (
      λ y g. h (level l) ∙ ap (λ (x : FlatLine). silent c all n (level x)) (let q : Some l ≡ Some y = sym f.0 ∙ sym (ap (slice_get all) p) ∙ g in let r : l ≡ y = cc in r) ∙ ap (λ i. silent c all i (level y)) (sym p),
      hears c all (suc n) (k + 1) (record { number = k; line = l; later = ls ++ [] } ∷ in_reach depth_of (level l) ms) ls (omega (arith, e)) f.1
          (λ v. quiet_kept c v (record { number = k; line = l; later = ls ++ [] }) (in_reach depth_of (level l) ms)
          ∙ ap (λ b. cond (nat_le l.depth v && speaks_of c l) false b) (ap (quiet c) (kept_by_both v (level l) ms) ∙ h (min v (level l)))
          ∙ sym (ap (silent_before c v (silent c all n)) f.0)),
    )

true_is : true ≡ false → ⊥
true_is e = cc

or_false : (a b : Bool) → (a || b) ≡ false → (a ≡ false) × (b ≡ false)
or_false true b e = cc
or_false false b e = (refl, e)

both_false : (a b : Bool) → a ≡ false → b ≡ false → (a || b) ≡ false
both_false true b e h = cc
both_false false b e h = h

-- what is said of a constant around a line: it stands in no sentence, and is no boxed constant
abbrev pub Unsaid : Word → List Numbered → List Word → Type 0
Unsaid c ns bs = AllByRecursion (λ (x : Numbered). occurs c x.sentence ≡ false) ns × (Contains bs c → ⊥)

-- one line and its sentence
states_none : (c : Word) (k : ℕ) (o : Option Sent) (ns : List Numbered) → states_name c o ≡ false → AllByRecursion (λ (x : Numbered). occurs c x.sentence ≡ false) ns →
    AllByRecursion (λ (x : Numbered). occurs c x.sentence ≡ false) (prepend (numbered k o) ns)
states_none c k None ns e h = h
states_none c k (Some s) ns e h = (e, h)

states_first : (c : Word) (k : ℕ) (o : Option Sent) (ns : List Numbered) → AllByRecursion (λ (x : Numbered). occurs c x.sentence ≡ false) (prepend (numbered k o) ns) →
    (states_name c o ≡ false) × AllByRecursion (λ (x : Numbered). occurs c x.sentence ≡ false) ns
states_first c k None ns h = (refl, h)
states_first c k (Some s) ns h = (h.0, h.1)

-- one line and its box
boxes_none : (c : Word) (o : Option Word) (bs : List Word) → is_word c o ≡ false → (Contains bs c → ⊥) → Contains (prepend o bs) c → ⊥
boxes_none c None bs e h d = h d
boxes_none c (Some w) bs e h d = contains_cases ⊥ w c bs (λ q. true_is (sym (bytes_same c) ∙ ap (λ y. bytes_eq y c) (sym q) ∙ e)) h d

boxes_first : (c : Word) (o : Option Word) (bs : List Word) → (Contains (prepend o bs) c → ⊥) → (is_word c o ≡ false) × (Contains bs c → ⊥)
boxes_first c None bs h = (refl, h)
boxes_first c (Some w) bs h = (go (bytes_eq w c) refl, λ d. h (contains_there w c bs d))
  where
    go : (b : Bool) → bytes_eq w c ≡ b → b ≡ false
    go true e = absurd (h (subst (λ y. Contains (y ∷ bs) c) (sym (word_same w c e)) (contains_here c bs)))
    go false e = refl

box_none : (c : Word) (b : Bool) (o : Option Word) (bs : List Word) → (b && is_word c o) ≡ false → (Contains bs c → ⊥) → Contains (cond b (prepend o bs) bs) c → ⊥
box_none c true o bs e h = boxes_none c o bs e h
box_none c false o bs e h = h

box_first : (c : Word) (b : Bool) (o : Option Word) (bs : List Word) → (Contains (cond b (prepend o bs) bs) c → ⊥) → ((b && is_word c o) ≡ false) × (Contains bs c → ⊥)
box_first c true o bs h = boxes_first c o bs h
box_first c false o bs h = (refl, h)

-- quiet marks say nothing of the constant
quiet_unsaid : (c : Word) (ms : List Mark) → quiet c ms ≡ true → Unsaid c (sentences_of ms) (boxes_of ms)
quiet_unsaid c [] e = (tt, λ (k, l, q). absurd (omega (arith, l)))
quiet_unsaid c (m ∷ ms) e = go (speaks_of c m.line) refl (λ f. quiet_unsaid c ms f) e
  where
    go : (b : Bool) → speaks_of c m.line ≡ b → (quiet c ms ≡ true → Unsaid c (sentences_of ms) (boxes_of ms)) → cond b false (quiet c ms) ≡ true → Unsaid c (sentences_of (m ∷ ms)) (boxes_of (m ∷ ms))
    go true s i f = cc
    go false s i f =
        let p : (states_name c m.line.sentence ≡ false) × ((opens m.line.rule && is_word c m.line.boxed) ≡ false) = or_false (states_name c m.line.sentence) (opens m.line.rule && is_word c m.line.boxed) s in
        let u : Unsaid c (sentences_of ms) (boxes_of ms) = i f in
        (states_none c m.number m.line.sentence (sentences_of ms) p.0 u.0, box_none c (opens m.line.rule) m.line.boxed (boxes_of ms) p.1 u.1)

unsaid_quiet : (c : Word) (ms : List Mark) → Unsaid c (sentences_of ms) (boxes_of ms) → quiet c ms ≡ true
unsaid_quiet c [] u = refl
unsaid_quiet c (m ∷ ms) u =
    let a : (states_name c m.line.sentence ≡ false) × AllByRecursion (λ (x : Numbered). occurs c x.sentence ≡ false) (sentences_of ms) = states_first c m.number m.line.sentence (sentences_of ms) u.0 in
    let b : ((opens m.line.rule && is_word c m.line.boxed) ≡ false) × (Contains (boxes_of ms) c → ⊥) = box_first c (opens m.line.rule) m.line.boxed (boxes_of ms) u.1 in
    ap (λ t. cond t false (quiet c ms)) (both_false (states_name c m.line.sentence) (opens m.line.rule && is_word c m.line.boxed) a.0 b.0) ∙ unsaid_quiet c ms (a.1, b.1)

-- from one list to another, by two things that are seen of their items
carry_two : {X Y Z W : Type 0} (n : X → ℕ) (o : Y → ℕ) (F : X → Z) (G : Y → Z) (H : X → W) (K : Y → W) (Q : ℕ → Z → W → Type 0) (xs : List X) (ys : List Y) →
    map n xs ≡ map o ys → map F xs ≡ map G ys → map H xs ≡ map K ys → AllByRecursion (λ x. Q (n x) (F x) (H x)) xs → AllByRecursion (λ y. Q (o y) (G y) (K y)) ys
carry_two n o F G H K Q [] [] e f g h = tt
carry_two n o F G H K Q [] (y ∷ ys) e f g h = cc
carry_two n o F G H K Q (x ∷ xs) [] e f g h = cc
carry_two n o F G H K Q (x ∷ xs) (y ∷ ys) e f g h =
    let a : n x ≡ o y = cc in
    let b : F x ≡ G y = cc in
    let d : H x ≡ K y = cc in
    let p : map n xs ≡ map o ys = cc in
    let q : map F xs ≡ map G ys = cc in
    let r : map H xs ≡ map K ys = cc in
    (subst (λ k. Q k (G y) (K y)) a (subst (λ z. Q (n x) z (K y)) b (subst (λ w. Q (n x) (F x) w) d h.0)), carry_two n o F G H K Q xs ys p q r h.1)

-- line j is silent of the constant exactly where nothing around it speaks of it
abbrev pub SilentIs : Word → List FlatLine → ℕ → List Numbered → List Word → Type 0
SilentIs c all j ns bs = (l : FlatLine) → slice_get all (j - 1) ≡ Some l → (silent c all (j - 1) (level l) ≡ true → Unsaid c ns bs) × (Unsaid c ns bs → silent c all (j - 1) (level l) ≡ true)

silent_is : (c : Word) (p : Items) → AreProper p → AllByRecursion (λ (x : Placed). SilentIs c (flatten 1 p) x.number x.around.scope.sentences x.around.boxes) (lines_of p)
silent_is c p o =
    carry_two (λ (r : Reach). r.number) (λ (x : Placed). x.number) (λ r. sentences_of r.marks) (λ x. x.around.scope.sentences) (λ r. boxes_of r.marks) (λ x. x.around.boxes) (SilentIs c (flatten 1 p))
    (reaches depth_of 1 [] (flatten 1 p) []) (lines_of p)
    (reach_numbers depth_of 1 [] (flatten 1 p) [] ∙ sym (placed_numbers p outside 1 1))
    (sentences_same p 1 1 outside [] [] o refl) (boxes_by_levels p o)
    (all_turn (Hears c (flatten 1 p)) (λ (r : Reach). SilentIs c (flatten 1 p) r.number (sentences_of r.marks) (boxes_of r.marks))
    (λ r h l g. (λ e. quiet_unsaid c r.marks (h l g ∙ e), λ u. sym (h l g) ∙ unsaid_quiet c r.marks u)) (reaches depth_of 1 [] (flatten 1 p) [])
    (hears c (flatten 1 p) 0 1 [] (flatten 1 p) refl refl (λ v. refl)))

-- the premises are free of the constant
premises_free : (c : Word) (ps : List Sent) → list_any (occurs c) ps ≡ false → AllByRecursion (λ p. occurs c p ≡ false) ps
premises_free c [] e = tt
premises_free c (p ∷ ps) e = let w : (occurs c p ≡ false) × (list_any (occurs c) ps ≡ false) = or_false (occurs c p) (list_any (occurs c) ps) e in (w.0, premises_free c ps w.1)

none_said : (c : Word) (ps : List Sent) → AllByRecursion (λ p. occurs c p ≡ false) ps → list_any (occurs c) ps ≡ false
none_said c [] h = refl
none_said c (p ∷ ps) h = both_false (occurs c p) (list_any (occurs c) ps) h.0 (none_said c ps h.1)

-- the box at the placed line is fresh exactly where no premise has c and the lines before line j are silent of it
abbrev pub FreshAsSaid : List Sent → List FlatLine → ℕ → FlatLine → Word → Placed → Type 0
FreshAsSaid premises lines j l c x =
    (list_any (occurs c) premises ≡ false → silent c lines (j - 1) (level l) ≡ true → HasFreshBox premises x.around x.line.boxed)
    × (HasFreshBox premises x.around x.line.boxed → (list_any (occurs c) premises ≡ false) × (silent c lines (j - 1) (level l) ≡ true))

-- line j boxes c, which is fresh there exactly where no premise has it and the lines before are silent of it
pub fresh_where_silent : (premises : List Sent) (lines : List FlatLine) (j : ℕ) (l : FlatLine) (c : Word) → slice_get lines (j - 1) ≡ Some l → l.boxed ≡ Some c →
    AtLine lines j (FreshAsSaid premises lines j l c)
fresh_where_silent premises lines j l c g b p o f =
    both_turn (λ (x : Placed). x.number ≡ j → Agrees lines j x) (λ (x : Placed). SilentIs c (flatten 1 p) x.number x.around.scope.sentences x.around.boxes)
    (λ (x : Placed). x.number ≡ j → FreshAsSaid premises lines j l c x) (λ x a s n. go x (a n) (subst (λ ls. SilentIs c ls j x.around.scope.sentences x.around.boxes) (sym f) (subst (λ k. SilentIs c (flatten 1 p) k x.around.scope.sentences x.around.boxes) n s) l g)) (lines_of p)
    (agrees lines j p o f) (silent_is c p o)
  where
    go : (x : Placed) → Agrees lines j x → ((silent c lines (j - 1) (level l) ≡ true → Unsaid c x.around.scope.sentences x.around.boxes) × (Unsaid c x.around.scope.sentences x.around.boxes → silent c lines (j - 1) (level l) ≡ true)) → FreshAsSaid premises lines j l c x
    go x a s =
        let same : Some x.line ≡ Some l = sym a.line ∙ g in
        let boxed : x.line.boxed ≡ Some c = ap (λ (y : FlatLine). y.boxed) (let q : x.line ≡ l = cc in q) ∙ b in (
          λ e h. subst (HasFreshBox premises x.around) (sym boxed) (let u = s.0 h in record { premises_free = premises_free c premises e; scope_free = u.0; boxes_free = u.1 }),
          λ h. (let w : IsFresh premises x.around c = subst (HasFreshBox premises x.around) boxed h in (none_said c premises w.premises_free, s.1 (w.scope_free, w.boxes_free))),
        )

-- the same as one test
pub fresh_test : (premises : List Sent) (lines : List FlatLine) (j : ℕ) (l : FlatLine) (c : Word) (r : Bool) → slice_get lines (j - 1) ≡ Some l → l.boxed ≡ Some c →
    r ≡ (not (list_any (occurs c) premises) && silent c lines (j - 1) (level l)) → AtLine lines j (λ x. IsTrue r ↔ HasFreshBox premises x.around x.line.boxed)
fresh_test premises lines j l c r g b e = at_line lines j (FreshAsSaid premises lines j l c) (λ x. IsTrue r ↔ HasFreshBox premises x.around x.line.boxed) (λ x s. go (list_any (occurs c) premises) (silent c lines (j - 1) (level l)) e (HasFreshBox premises x.around x.line.boxed) s) (fresh_where_silent premises lines j l c g b)
  where
    go : (a b : Bool) → r ≡ (not a && b) → (F : Type 0) → (a ≡ false → b ≡ true → F) × (F → (a ≡ false) × (b ≡ true)) → IsTrue r ↔ F
    go true b e F s = (λ h. absurd (true_is (sym h ∙ e)), λ f. absurd (true_is (s.1 f).0))
    go false b e F s = (λ h. s.0 refl (sym e ∙ h), λ f. e ∙ (s.1 f).1)

-- without a box there is nothing to test
pub no_box_to_test : (premises : List Sent) (lines : List FlatLine) (j : ℕ) (l : FlatLine) → slice_get lines (j - 1) ≡ Some l → l.boxed ≡ None → AtLine lines j (λ x. IsTrue true ↔ HasFreshBox premises x.around x.line.boxed)
no_box_to_test premises lines j l g b = where_agrees lines j (λ x. IsTrue true ↔ HasFreshBox premises x.around x.line.boxed)
    (λ x a. let same : Some x.line ≡ Some l = sym a.line ∙ g in
    let none : x.line.boxed ≡ None = ap (λ (y : FlatLine). y.boxed) (let q : x.line ≡ l = cc in q) ∙ b in
    (λ h. subst (HasFreshBox premises x.around) (sym none) tt, λ h. refl))
