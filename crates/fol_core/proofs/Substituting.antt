-- What substitution says of each form of sentence, of conjunctions and disjunctions see Forms; and where it changes nothing.
use Rattle.std.proofs.Common.{◌≡◌, List, [], ◌∷◌, map, refl, ap, ap₂, sym, ◌∙◌, subst, Bool, true, false, IsTrue, rules, true≢false}
use Rattle.std.proofs.lemmas.Bool.{and_parts}
use Rattle.std.specs.Prelude.{◌&&◌, ◌||◌, not, cond}
use Rattle.std.specs.List.{list_all}
use Rattle.std.specs.Str.{bytes_eq}
use Rattle.fol_core.specs.declared.sent.Term.{Term, roll-Term}
use Rattle.fol_core.specs.declared.sent.Term.TheVariants.{Var, App}
use Rattle.fol_core.specs.declared.sent.Term.TheOpen.{Term-F}
use Rattle.fol_core.specs.declared.sent.Term.TheOpen as t
use Rattle.fol_core.specs.declared.sent.Term.TheFolds.{ind-Term, fold-roll-Term, map-Term}
use Rattle.fol_core.specs.declared.sent.Sent.{Sent, roll-Sent, the_lemmas}
use Rattle.fol_core.specs.declared.sent.Sent.TheOpen.{Sent-F}
use Rattle.fol_core.specs.declared.sent.Sent.TheOpen as f
use Rattle.fol_core.specs.declared.sent.Sent.TheVariants as s
use Rattle.fol_core.specs.declared.sent.Sent.TheFolds.{ind-Sent, fold-roll-Sent, map-Sent}
use Rattle.fol_core.specs.Word.{Word}
use Rattle.fol_core.specs.Closed.{is_among, is_bound, bound_step, closed_under, closed_step, closed, closed_term}
use Rattle.fol_core.specs.Subst.{itself, subst_term, subst_term_step, subst_where, subst_step, subst_closed_term}
use Rattle.fol_core.proofs.Equality.{word_same}
use Rattle.fol_core.proofs.TermEquality.{rolls_var, rolls_name, rolls_app}

pub subst_atom : (x : Word) (n : Term) (p : Word) (ts : List Term) (free : Bool) → subst_where x n (s.Atom p ts) free ≡ s.Atom p (map (subst_term x n free) ts)
subst_atom x n p ts free = search (rules, the_lemmas)

pub subst_eq : (x : Word) (n : Term) (a b : Term) (free : Bool) → subst_where x n (s.Eq a b) free ≡ s.Eq (subst_term x n free a) (subst_term x n free b)
subst_eq x n a b free = search (rules, the_lemmas)

pub subst_bottom : (x : Word) (n : Term) (free : Bool) → subst_where x n s.Bottom free ≡ s.Bottom
subst_bottom x n free = search (rules, the_lemmas)

pub subst_not : (x : Word) (n : Term) (p : Sent) (free : Bool) → subst_where x n (s.Not p) free ≡ s.Not (subst_where x n p free)
subst_not x n p free = search (rules, the_lemmas)

pub subst_if : (x : Word) (n : Term) (p q : Sent) (free : Bool) → subst_where x n (s.If p q) free ≡ s.If (subst_where x n p free) (subst_where x n q free)
subst_if x n p q free = search (rules, the_lemmas)

pub subst_iff : (x : Word) (n : Term) (p q : Sent) (free : Bool) → subst_where x n (s.Iff p q) free ≡ s.Iff (subst_where x n p free) (subst_where x n q free)
subst_iff x n p q free = search (rules, the_lemmas)

pub subst_all : (x : Word) (n : Term) (y : Word) (p : Sent) (free : Bool) → subst_where x n (s.All y p) free ≡ s.All y (subst_where x n p (free && not (bytes_eq y x)))
subst_all x n y p free = search (rules, the_lemmas)

pub subst_ex : (x : Word) (n : Term) (y : Word) (p : Sent) (free : Bool) → subst_where x n (s.Ex y p) free ≡ s.Ex y (subst_where x n p (free && not (bytes_eq y x)))
subst_ex x n y p free = search (rules, the_lemmas)

-- A sentence, with each part that the substitution keeps.
rolls_atom : (p : Word) (ts : List Term) → s.Atom p ts ≡ roll-Sent (f.Atom p ts)
rolls_atom p ts = search (rules, the_lemmas)

rolls_eq : (a b : Term) → s.Eq a b ≡ roll-Sent (f.Eq a b)
rolls_eq a b = search (rules, the_lemmas)

rolls_bottom : s.Bottom ≡ roll-Sent f.Bottom
rolls_bottom = search (rules, the_lemmas)

rolls_not : (p : Sent) → s.Not p ≡ roll-Sent (f.Not p)
rolls_not p = search (rules, the_lemmas)

rolls_and : (ps : List Sent) → s.And ps ≡ roll-Sent (f.And ps)
rolls_and ps = search (rules, the_lemmas)

rolls_or : (ps : List Sent) → s.Or ps ≡ roll-Sent (f.Or ps)
rolls_or ps = search (rules, the_lemmas)

rolls_if : (p q : Sent) → s.If p q ≡ roll-Sent (f.If p q)
rolls_if p q = search (rules, the_lemmas)

rolls_iff : (p q : Sent) → s.Iff p q ≡ roll-Sent (f.Iff p q)
rolls_iff p q = search (rules, the_lemmas)

rolls_all : (x : Word) (p : Sent) → s.All x p ≡ roll-Sent (f.All x p)
rolls_all x p = search (rules, the_lemmas)

rolls_ex : (x : Word) (p : Sent) → s.Ex x p ≡ roll-Sent (f.Ex x p)
rolls_ex x p = search (rules, the_lemmas)

-- Where x is still free, it isn't among the variables that may be free in the sentence.
abbrev IsKept : Word → Term → Sent → Type 0
IsKept x n p = (free : Bool) (B : List Word) → (free && is_among x B) ≡ false → closed_under p B ≡ true → subst_where x n p free ≡ p

abbrev Held : Word → Term → Type 0
Held x n = (p : Sent) × IsKept x n p

abbrev bare : (x : Word) (n : Term) → Sent-F (Held x n) → Sent-F Sent
bare x n = map-Sent (Held x n) Sent (λ e. e.0)

-- A term in which x isn't bound, or is no longer free, is kept.
abbrev IsLeft : Word → Term → Bool → List Word → Term → Type 0
IsLeft x n free B u = is_bound B u ≡ true → subst_term x n free u ≡ u

abbrev Left : Word → Term → Bool → List Word → Type 0
Left x n free B = (u : Term) × IsLeft x n free B u

abbrev unleft : (x : Word) (n : Term) (free : Bool) (B : List Word) → Term-F (Left x n free B) → Term-F Term
unleft x n free B = map-Term (Left x n free B) Term (λ e. e.0)

keep_args : (x : Word) (n : Term) (free : Bool) (B : List Word) (es : List (Left x n free B)) →
    list_all itself (map (is_bound B) (map (λ (e : Left x n free B). e.0) es)) ≡ true →
    map (subst_term x n free) (map (λ (e : Left x n free B). e.0) es) ≡ map (λ (e : Left x n free B). e.0) es
keep_args x n free B [] h = refl
keep_args x n free B (e ∷ es) h = let w = and_parts (is_bound B e.0) (list_all itself (map (is_bound B) (map (λ (d : Left x n free B). d.0) es))) h in ap₂ ◌∷◌ (e.1 w.0) (keep_args x n free B es w.1)

step_left : (x : Word) (n : Term) (free : Bool) (B : List Word) → (free && is_among x B) ≡ false → (y : Term-F (Left x n free B)) →
    bound_step B (map-Term Term Bool (is_bound B) (unleft x n free B y)) ≡ true →
    subst_term_step x n free (map-Term Term Term (subst_term x n free) (unleft x n free B y)) ≡ roll-Term (unleft x n free B y)
step_left x n free B v (t.Name m) e = rolls_name m
step_left x n free B v (t.App g es) e = ap (App g) (keep_args x n free B es e) ∙ rolls_app g _
step_left x n free B v (t.Var y) e = go (free && bytes_eq y x) refl ∙ rolls_var y
  where
    go : (b : Bool) → (free && bytes_eq y x) ≡ b → cond b n (Var y) ≡ Var y
    go false i = refl
    go true i =
        let (f, same) = and_parts free (bytes_eq y x) i in
        let here : is_among x B ≡ true = subst (λ u. is_among u B ≡ true) (word_same y x same) e in
        absurd (true≢false (sym (ap₂ ◌&&◌ f here) ∙ v))

keep_term : (x : Word) (n : Term) (u : Term) (free : Bool) (B : List Word) → (free && is_among x B) ≡ false → is_bound B u ≡ true → subst_term x n free u ≡ u
keep_term x n u free B v = ind-Term (IsLeft x n free B) (λ l y is.
    subst (λ (w : Term-F Term). IsLeft x n free B (roll-Term w)) is (λ h.
    fold-roll-Term Term (subst_term_step x n free) (unleft x n free B y)
    ∙ step_left x n free B v y (sym (fold-roll-Term Bool (bound_step B) (unleft x n free B y)) ∙ h))) u

-- A closed term is kept.
pub subst_in_closed : (x : Word) (n u : Term) (free : Bool) → IsTrue (closed_term u) → subst_term x n free u ≡ u
subst_in_closed x n u free e = keep_term x n u free [] (no free) e
  where
    no : (b : Bool) → (b && false) ≡ false
    no true = refl
    no false = refl

keep_terms : (x : Word) (n : Term) (ts : List Term) (free : Bool) (B : List Word) → (free && is_among x B) ≡ false → list_all (is_bound B) ts ≡ true → map (subst_term x n free) ts ≡ ts
keep_terms x n [] free B v e = refl
keep_terms x n (t ∷ ts) free B v e = let w = and_parts (is_bound B t) (list_all (is_bound B) ts) e in ap₂ ◌∷◌ (keep_term x n t free B v w.0) (keep_terms x n ts free B v w.1)

keep_parts : (x : Word) (n : Term) (es : List (Held x n)) (free : Bool) (B : List Word) → (free && is_among x B) ≡ false →
    list_all (λ (g : List Word → Bool). g B) (map closed_under (map (λ (e : Held x n). e.0) es)) ≡ true →
    map (λ (g : Bool → Sent). g free) (map (subst_where x n) (map (λ (e : Held x n). e.0) es)) ≡ map (λ (e : Held x n). e.0) es
keep_parts x n [] free B v e = refl
keep_parts x n (h ∷ es) free B v e = let w = and_parts (closed_under h.0 B) (list_all (λ (g : List Word → Bool). g B) (map closed_under (map (λ (d : Held x n). d.0) es))) e in
    ap₂ ◌∷◌ (h.1 free B v w.0) (keep_parts x n es free B v w.1)

under : (x z : Word) (free : Bool) (B : List Word) → (free && is_among x B) ≡ false → ((free && not (bytes_eq z x)) && is_among x (z ∷ B)) ≡ false
under x z free B v = go free (bytes_eq z x) v
  where
    go : (a b : Bool) → (a && is_among x B) ≡ false → ((a && not b) && (b || is_among x B)) ≡ false
    go false b v = refl
    go true true v = refl
    go true false v = v

step_kept : (x : Word) (n : Term) (y : Sent-F (Held x n)) (free : Bool) (B : List Word) → (free && is_among x B) ≡ false →
    closed_step (map-Sent Sent (List Word → Bool) closed_under (bare x n y)) B ≡ true →
    subst_step x n (map-Sent Sent (Bool → Sent) (subst_where x n) (bare x n y)) free ≡ roll-Sent (bare x n y)
step_kept x n (f.Atom p ts) free B v e = ap (s.Atom p) (keep_terms x n ts free B v e) ∙ rolls_atom p ts
step_kept x n (f.Eq a b) free B v e = let w = and_parts (is_bound B a) (is_bound B b) e in ap₂ s.Eq (keep_term x n a free B v w.0) (keep_term x n b free B v w.1) ∙ rolls_eq a b
step_kept x n f.Bottom free B v e = rolls_bottom
step_kept x n (f.Not h) free B v e = ap s.Not (h.1 free B v e) ∙ rolls_not h.0
step_kept x n (f.And es) free B v e = ap s.And (keep_parts x n es free B v e) ∙ rolls_and _
step_kept x n (f.Or es) free B v e = ap s.Or (keep_parts x n es free B v e) ∙ rolls_or _
step_kept x n (f.If g h) free B v e = let w = and_parts (closed_under g.0 B) (closed_under h.0 B) e in ap₂ s.If (g.1 free B v w.0) (h.1 free B v w.1) ∙ rolls_if g.0 h.0
step_kept x n (f.Iff g h) free B v e = let w = and_parts (closed_under g.0 B) (closed_under h.0 B) e in ap₂ s.Iff (g.1 free B v w.0) (h.1 free B v w.1) ∙ rolls_iff g.0 h.0
step_kept x n (f.All z h) free B v e = ap (s.All z) (h.1 (free && not (bytes_eq z x)) (z ∷ B) (under x z free B v) e) ∙ rolls_all z h.0
step_kept x n (f.Ex z h) free B v e = ap (s.Ex z) (h.1 (free && not (bytes_eq z x)) (z ∷ B) (under x z free B v) e) ∙ rolls_ex z h.0

kept : (x : Word) (n : Term) (p : Sent) → IsKept x n p
kept x n = ind-Sent (IsKept x n) (λ l y is.
    subst (λ (m : Sent-F Sent). IsKept x n (roll-Sent m)) is (λ free B v e.
    ap (λ (g : Bool → Sent). g free) (fold-roll-Sent (Bool → Sent) (subst_step x n) (bare x n y))
    ∙ step_kept x n y free B v (sym (ap (λ (g : List Word → Bool). g B) (fold-roll-Sent (List Word → Bool) closed_step (bare x n y))) ∙ e)))

-- A substitution for a variable that isn't free in the sentence changes nothing: the sentence is closed under variables
-- among which it isn't.
pub subst_unchanged : (x : Word) (n : Term) (p : Sent) (B : List Word) → is_among x B ≡ false → IsTrue (closed_under p B) → subst_closed_term x n p ≡ p
subst_unchanged x n p B v e = kept x n p true B v e

-- A substitution into a closed sentence changes nothing.
pub subst_closed : (x : Word) (n : Term) (p : Sent) → IsTrue (closed p) → subst_closed_term x n p ≡ p
subst_closed x n p e = kept x n p true [] refl e
