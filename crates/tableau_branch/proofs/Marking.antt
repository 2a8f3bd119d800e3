-- What is kept beside a branch that grows and is cut back.
use Rattle.std.proofs.Common.{◌≡◌, ◌≤◌, ℕ, zero, suc, ◌+◌, List, [], ◌∷◌, ◌++◌, length, take, drop, get_or, refl, ap, ap₂, sym, ◌∙◌, subst, Bool, true, false, not, ◌&&◌, ◌||◌, inl, inr, ◌⊎◌, arith, true≢false}
use Rattle.std.specs.List.{list_any}
use Rattle.std.proofs.lemmas.Bool.{and_parts}
use Rattle.std.proofs.lemmas.List.{append_assoc, take-append-le}
use Rattle.std.proofs.Math.Seq.{take-length}
use Rattle.fol_core.specs.declared.sent.Term.{Term}
use Rattle.fol_core.specs.declared.sent.Sent.{Sent, out-Sent}
use Rattle.tableau_laws.specs.declared.literal.Literal.{Literal as Signed}
use Rattle.tableau_laws.specs.Branch.{held, denied, opposite, same_signed, stands, all_terms_in, terms_on}
use Rattle.tableau_laws.specs.Choices.{is_closed, is_contrary}
use Rattle.tableau_laws.proofs.Choosing.{or_cases, or_left, or_right}
use Rattle.tableau_laws.proofs.Lists.{Elem, elem_left, elem_right, elem_split}
use Rattle.tableau_laws.proofs.ClassSound.{some_one}
use Rattle.tableau_branch.specs.declared.branch.Mark.{Mark}
use Rattle.tableau_branch.specs.inside.Marks.{mark_of, marks_of, IsKept}
use Rattle.tableau_branch.proofs.Indexing.{it_is, it_self, by_iff}
use Rattle.tableau_branch.specs.inside.Gathered.{gathered}
use Rattle.tableau_branch.proofs.Gathering.{terms_more, terms_of_one}

pub marks_snoc : (b ls : List Signed) (l : Signed) → marks_of b (ls ++ l ∷ []) ≡ marks_of b ls ++ mark_of (b ++ (ls ++ l ∷ [])) ∷ []
marks_snoc b [] l = refl
marks_snoc b (k ∷ ls) l = ap (λ z. mark_of b ∷ z) (marks_snoc (b ++ k ∷ []) ls l ∙ ap (λ z. marks_of (b ++ k ∷ []) ls ++ mark_of z ∷ []) (append_assoc b (k ∷ []) (ls ++ l ∷ [])))

no_more : {X : Type 0} (xs : List X) → xs ++ [] ≡ xs
no_more [] = refl
no_more (x ∷ xs) = ap (λ z. x ∷ z) (no_more xs)

marks_take : (n : ℕ) (b ls : List Signed) → n ≤ length ls → take (suc n) (marks_of b ls) ≡ marks_of b (take n ls)
marks_take zero b [] h = refl
marks_take zero b (l ∷ ls) h = refl
marks_take (suc n) b [] h = absurd (omega (arith, h))
marks_take (suc n) b (l ∷ ls) h = ap (λ z. mark_of b ∷ z) (marks_take n (b ++ l ∷ []) ls (omega (arith, h)))

mark_at : (k : ℕ) (b ls : List Signed) (d : Mark) → k ≤ length ls → get_or (marks_of b ls) k d ≡ mark_of (b ++ take k ls)
mark_at zero b [] d h = ap mark_of (sym (no_more b))
mark_at zero b (l ∷ ls) d h = ap mark_of (sym (no_more b))
mark_at (suc k) b [] d h = absurd (omega (arith, h))
mark_at (suc k) b (l ∷ ls) d h = mark_at k (b ++ l ∷ []) ls d (omega (arith, h)) ∙ ap mark_of (append_assoc b (l ∷ []) (take k ls))

marks_length : (b ls : List Signed) → length (marks_of b ls) ≡ length ls + 1
marks_length b [] = refl
marks_length b (l ∷ ls) = omega (arith, marks_length (b ++ l ∷ []) ls)

pub kept : (b : List Signed) (terms : List Term) (marks : List Mark) → terms ≡ terms_on b → marks ≡ marks_of [] b → IsKept b terms marks
kept b terms marks e f = record { terms_are = e; marks_are = f; count = ap length f ∙ marks_length [] b }

-- the mark of a front of the branch, and of the whole
pub front_mark : (b : List Signed) (terms : List Term) (marks ms : List Mark) (n : ℕ) (d : Mark) → IsKept b terms marks → ms ≡ marks → n ≤ length b → get_or ms n d ≡ mark_of (take n b)
front_mark b terms marks ms n d h e l = ap (λ z. get_or z n d) (e ∙ h.marks_are) ∙ mark_at n [] b d l

pub whole_mark : (b : List Signed) (terms : List Term) (marks ms : List Mark) (n : ℕ) (d : Mark) → IsKept b terms marks → ms ≡ marks → n ≡ length b → get_or ms n d ≡ mark_of b
whole_mark b terms marks ms n d h e l = front_mark b terms marks ms n d h e (omega (arith, l)) ∙ ap mark_of (ap (λ z. take z b) l ∙ take-length b)

first_mark : (marks : List Mark) → marks ≡ record { terms = 0; closed = false } ∷ [] → marks ≡ marks_of [] []
unfolding is_closed
first_mark marks e = e

pub kept_begun : (b : List Signed) (terms : List Term) (old marks : List Mark) → b ≡ [] → terms ≡ [] → old ≡ [] → marks ≡ old ++ record { terms = 0; closed = false } ∷ [] → IsKept b terms marks
kept_begun b terms old marks e f g h =
    subst (λ z. IsKept z terms marks) (sym e) (kept [] terms marks f (first_mark marks (h ∙ ap (λ z. z ++ record { terms = 0; closed = false } ∷ []) g)))

-- one sentence more
pub kept_more : (b new : List Signed) (ts us : List Term) (ms ns : List Mark) (l : Signed) (count : ℕ) (closed : Bool) → IsKept b ts ms → us ≡ gathered ts (all_terms_in l.sentence) → count ≡ length us →
    closed ≡ is_closed [] (b ++ l ∷ []) → ns ≡ ms ++ record { terms = count; closed = closed } ∷ [] → new ≡ b ++ l ∷ [] → IsKept new us ns
kept_more b new ts us ms ns l count closed h e c f g n =
    let t : us ≡ terms_on (b ++ l ∷ []) = e ∙ ap (λ z. gathered z (all_terms_in l.sentence)) h.terms_are ∙ terms_of_one b l in
    let m : ns ≡ marks_of [] (b ++ l ∷ []) =
    g ∙ ap₂ (λ (n : ℕ) (q : Bool). ms ++ (let r : Mark = record { terms = n; closed = q } in r) ∷ []) (c ∙ ap length t) f
    ∙ ap (λ z. z ++ mark_of (b ++ l ∷ []) ∷ []) h.marks_are ∙ sym (marks_snoc [] b l) in
    subst (λ z. IsKept z us ns) (sym n) (kept (b ++ l ∷ []) us ns t m)

-- what is kept of a branch that is cut back

front_terms : (b : List Signed) (n k : ℕ) → k ≡ length (terms_on (take n b)) → take k (terms_on b) ≡ terms_on (take n b)
front_terms b n k e =
    ap₂ take e (ap terms_on (take_drop n b) ∙ terms_more (take n b) (drop n b))
    ∙ take-append-le (length (terms_on (take n b))) (terms_on (take n b)) _ (omega arith) ∙ take-length (terms_on (take n b))
  where
    take_drop : {X : Type 0} (n : ℕ) (xs : List X) → xs ≡ take n xs ++ drop n xs
    take_drop zero xs = refl
    take_drop (suc n) [] = refl
    take_drop (suc n) (x ∷ xs) = ap (λ z. x ∷ z) (take_drop n xs)

pub kept_cut : (b new : List Signed) (terms us : List Term) (marks ms ns : List Mark) (n k m : ℕ) (d : Mark) → IsKept b terms marks → ms ≡ marks → n ≤ length b → k ≡ (get_or ms n d).terms → m ≡ n + 1 →
    us ≡ take k terms → ns ≡ take m marks → new ≡ take n b → IsKept new us ns
kept_cut b new terms us marks ms ns n k m d h e l f g u v w =
    let c : k ≡ length (terms_on (take n b)) = f ∙ ap (λ (q : Mark). q.terms) (front_mark b terms marks ms n d h e l) in
    let i : m ≡ suc n = omega (arith, g) in
    subst (λ z. IsKept z us ns) (sym w)
    (kept (take n b) us ns (u ∙ ap (take k) h.terms_are ∙ front_terms b n k c) (v ∙ ap₂ take i h.marks_are ∙ marks_take n [] b l))

-- when a branch with one sentence more is closed

-- a sentence stands on it held and denied
abbrev Clash : List Signed → Type 0
Clash b = (s : Sent) × Elem b (held s) × Elem b (denied s)

abbrev pairs : List Signed → Bool
pairs b = list_any (λ k. k.holds && stands b (denied k.sentence)) b

abbrev contraries : List Signed → Bool
contraries b = list_any (λ k. is_contrary k.holds (out-Sent k.sentence)) b

stands_elem : (b : List Signed) (l : Signed) → stands b l ≡ true → Elem b l
stands_elem [] l h = absurd (true≢false (sym h))
stands_elem (k ∷ b) l h = elim (or_cases (same_signed l k) (stands b l) h) [ inl e ↦ inl (it_is l k e) | inr e ↦ inr (stands_elem b l e) ]

elem_stands : (b : List Signed) (l : Signed) → Elem b l → stands b l ≡ true
elem_stands [] l h = absurd h
elem_stands (k ∷ b) l (inl e) = or_left (same_signed l k) (stands b l) (subst (λ z. same_signed l z ≡ true) (sym e) (it_self l))
elem_stands (k ∷ b) l (inr h) = or_right (same_signed l k) (stands b l) (elem_stands b l h)

any_elem : {X : Type 0} (test : X → Bool) (xs : List X) (x : X) → Elem xs x → test x ≡ true → list_any test xs ≡ true
any_elem test [] x h e = absurd h
any_elem test (y ∷ ys) x (inl i) e = or_left (test y) (list_any test ys) (subst (λ z. test z ≡ true) (sym i) e)
any_elem test (y ∷ ys) x (inr h) e = or_right (test y) (list_any test ys) (any_elem test ys x h e)

held_elem : (b : List Signed) (h : Bool) (s : Sent) → h ≡ true → Elem b (record { holds = h; sentence = s }) → Elem b (held s)
held_elem b h s e m = subst (λ z. Elem b (record { holds = z; sentence = s })) e m

to_clash : (b : List Signed) → pairs b ≡ true → Clash b
to_clash b h =
    let w = some_one (λ k. k.holds && stands b (denied k.sentence)) b h in
    let e = and_parts (w.0.holds) (stands b (denied w.0.sentence)) w.2 in
    (w.0.sentence, held_elem b w.0.holds w.0.sentence e.0 w.1, stands_elem b (denied w.0.sentence) e.1)

from_clash : (b : List Signed) → Clash b → pairs b ≡ true
from_clash b h = any_elem (λ k. k.holds && stands b (denied k.sentence)) b (held h.0) h.1 (elem_stands b (denied h.0) h.2)

apart : (s : Sent) (l : Signed) → l ≡ held s → l ≡ denied s → ⊥
apart s l e f = true≢false (ap (λ (k : Signed). k.holds) (sym e ∙ f))

last_is : {X : Type 0} (y x : X) → Elem (y ∷ []) x → y ≡ x
last_is y x (inl e) = e
last_is y x (inr h) = absurd h

clash_less : (b : List Signed) (l : Signed) → Clash (b ++ l ∷ []) → Clash b ⊎ Elem b (opposite l)
clash_less b l (s, h, d) = elim (elem_split b (l ∷ []) (held s) h) [
  | inl p ↦ elim (elem_split b (l ∷ []) (denied s) d) [
    | inl q ↦ inl (s, p, q)
    | inr q ↦ inr (subst (λ k. Elem b (opposite k)) (sym (last_is l (denied s) q)) p)
  ]
  | inr p ↦ elim (elem_split b (l ∷ []) (denied s) d) [
    | inl q ↦ inr (subst (λ k. Elem b (opposite k)) (sym (last_is l (held s) p)) q)
    | inr q ↦ absurd (apart s l (last_is l (held s) p) (last_is l (denied s) q))
  ]
]

clash_last : (b : List Signed) (h : Bool) (s : Sent) → Elem b (record { holds = not h; sentence = s }) → Clash (b ++ record { holds = h; sentence = s } ∷ [])
clash_last b true s m = (s, elem_right b (held s ∷ []) (held s) (inl refl), elem_left b (held s ∷ []) (denied s) m)
clash_last b false s m = (s, elem_left b (denied s ∷ []) (held s) m, elem_right b (denied s ∷ []) (denied s) (inl refl))

clash_more : (b : List Signed) (l : Signed) → Clash b → Clash (b ++ l ∷ [])
clash_more b l (s, h, d) = (s, elem_left b (l ∷ []) (held s) h, elem_left b (l ∷ []) (denied s) d)

pairs_more : (b : List Signed) (l : Signed) → pairs (b ++ l ∷ []) ≡ (pairs b || stands b (opposite l))
pairs_more b l = by_iff (pairs (b ++ l ∷ [])) (pairs b || stands b (opposite l))
    (λ h. elim (clash_less b l (to_clash (b ++ l ∷ []) h)) [ inl c ↦ or_left (pairs b) _ (from_clash b c) | inr m ↦ or_right (pairs b) _ (elem_stands b (opposite l) m) ])
    (λ h. from_clash (b ++ l ∷ []) (elim (or_cases (pairs b) (stands b (opposite l)) h) [ inl e ↦ clash_more b l (to_clash b e) | inr e ↦ clash_last b l.holds l.sentence (stands_elem b (opposite l) e) ]))

any_last : {X : Type 0} (test : X → Bool) (xs : List X) (x : X) → list_any test (xs ++ x ∷ []) ≡ (list_any test xs || test x)
any_last test [] x = by (test x)
  where
    by : (a : Bool) → (a || false) ≡ a
    by true = refl
    by false = refl
any_last test (y ∷ ys) x = by (test y) (any_last test ys x)
  where
    by : (a : Bool) → list_any test (ys ++ x ∷ []) ≡ (list_any test ys || test x) → (a || list_any test (ys ++ x ∷ [])) ≡ ((a || list_any test ys) || test x)
    by true e = refl
    by false e = e

turn : (p s c x : Bool) → (((p || s) || (c || x)) || false) ≡ (((p || c) || false) || (s || x))
turn true s c x = refl
turn false true true x = refl
turn false true false x = refl
turn false false true x = refl
turn false false false true = refl
turn false false false false = refl

pub closed_more : (b : List Signed) (l : Signed) → is_closed [] (b ++ l ∷ []) ≡ (is_closed [] b || (stands b (opposite l) || is_contrary l.holds (out-Sent l.sentence)))
unfolding is_closed
closed_more b l =
    ap₂ (λ x y. (x || y) || false) (pairs_more b l) (any_last (λ k. is_contrary k.holds (out-Sent k.sentence)) b l)
    ∙ turn (pairs b) (stands b (opposite l)) (contraries b) (is_contrary l.holds (out-Sent l.sentence))
