-- What is said of each predicate and of each term of a sentence, and of the sentence as a whole.
use Rattle.std.proofs.Common.{◌≡◌, Bool, true, false, List, [], ◌∷◌, ◌++◌, length, map, refl, ap, ap₂, sym, ◌∙◌, subst, rules, inl, inr}
use Rattle.std.specs.Prelude.{◌&&◌, ◌⊎◌}
use Rattle.std.specs.List.{list_all}
use Rattle.fol_core.specs.Word.{Word}
use Rattle.fol_core.specs.Subst.{itself}
use Rattle.fol_core.specs.Blocks.{has_places, places_step, fits}
use Rattle.fol_core.specs.Closed.{closed_under, closed_step, is_bound, is_among, bound_step as bound_term_step}
use Rattle.fol_core.specs.declared.sent.Term.{Term, roll-Term}
use Rattle.fol_core.specs.declared.sent.Term.{the_lemmas as term_lemmas}
use Rattle.fol_core.specs.declared.sent.Term.TheVariants.{Var, Name, App}
use Rattle.fol_core.specs.declared.sent.Term.TheOpen.{Term-F}
use Rattle.fol_core.specs.declared.sent.Term.TheOpen as t
use Rattle.fol_core.specs.declared.sent.Term.TheFolds.{ind-Term, fold-roll-Term, map-Term}
use Rattle.fol_core.specs.declared.sent.Sent.{Sent, roll-Sent, the_lemmas}
use Rattle.fol_core.specs.declared.sent.Sent.TheVariants.{Atom, Eq, Bottom, Not, And, Or, If, Iff, All, Ex}
use Rattle.fol_core.specs.declared.sent.Sent.TheOpen.{Sent-F}
use Rattle.fol_core.specs.declared.sent.Sent.TheOpen as f
use Rattle.fol_core.specs.declared.sent.Sent.TheFolds.{ind-Sent, fold-roll-Sent, map-Sent}
use Rattle.fol_text.specs.Occurrences.{joined, fitting, fitting_step, word_marks, word_step, boundness, bound_step}

and_true : (a : Bool) → a ≡ (a && true)
and_true true = refl
and_true false = refl

and_three : (a b c : Bool) → ((a && b) && c) ≡ (a && (b && c))
and_three true b c = refl
and_three false b c = refl

all_append : (xs ys : List Bool) → list_all itself (xs ++ ys) ≡ (list_all itself xs && list_all itself ys)
all_append [] ys = refl
all_append (x ∷ xs) ys = ap (λ b. x && b) (all_append xs ys) ∙ sym (and_three x (list_all itself xs) (list_all itself ys))

-- places of predicates

abbrev HasMarks : Sent → Type 0
HasMarks p = has_places p ≡ list_all itself (fitting p)

abbrev Held : Type 0
Held = (p : Sent) × HasMarks p

abbrev bare : Sent-F Held → Sent-F Sent
bare = map-Sent Held Sent (λ e. e.0)

parts_marked : (es : List Held) → list_all itself (map has_places (map (λ (e : Held). e.0) es)) ≡ list_all itself (joined (map fitting (map (λ (e : Held). e.0) es)))
parts_marked [] = refl
parts_marked (e ∷ es) = ap₂ ◌&&◌ e.1 (parts_marked es) ∙ sym (all_append (fitting e.0) (joined (map fitting (map (λ (d : Held). d.0) es))))

two_marked : (d e : Held) → (has_places d.0 && has_places e.0) ≡ list_all itself (fitting d.0 ++ fitting e.0)
two_marked d e = ap₂ ◌&&◌ d.1 e.1 ∙ sym (all_append (fitting d.0) (fitting e.0))

step_marked : (y : Sent-F Held) → places_step (map-Sent Sent Bool has_places (bare y)) ≡ list_all itself (fitting_step (map-Sent Sent (List Bool) fitting (bare y)))
step_marked (f.Atom p ts) = and_true (fits p (length ts))
step_marked (f.Eq a b) = refl
step_marked f.Bottom = refl
step_marked (f.Not e) = e.1
step_marked (f.And es) = parts_marked es
step_marked (f.Or es) = parts_marked es
step_marked (f.If d e) = two_marked d e
step_marked (f.Iff d e) = two_marked d e
step_marked (f.All v e) = e.1
step_marked (f.Ex v e) = e.1

-- Each block predicate has its places exactly where each predicate's number of terms fits.
pub places_marked : (s : Sent) → HasMarks s
places_marked = ind-Sent HasMarks (λ l y is.
    subst (λ (m : Sent-F Sent). HasMarks (roll-Sent m)) is
    (fold-roll-Sent Bool places_step (bare y) ∙ step_marked y ∙ ap (λ (m : List Bool). list_all itself m) (sym (fold-roll-Sent (List Bool) fitting_step (bare y)))))

-- free variables

abbrev IsMarked : Sent → Type 0
IsMarked p = (bound : List Word) → closed_under p bound ≡ list_all itself (boundness p bound)

abbrev Kept : Type 0
Kept = (p : Sent) × IsMarked p

abbrev plain : Sent-F Kept → Sent-F Sent
plain = map-Sent Kept Sent (λ e. e.0)

abbrev IsTermMarked : List Word → Term → Type 0
IsTermMarked bound u = is_bound bound u ≡ list_all itself (word_marks bound u)

abbrev MarkedTerm : List Word → Type 0
MarkedTerm bound = (u : Term) × IsTermMarked bound u

abbrev bare_term : (bound : List Word) → Term-F (MarkedTerm bound) → Term-F Term
bare_term bound = map-Term (MarkedTerm bound) Term (λ e. e.0)

args_marked : (bound : List Word) (es : List (MarkedTerm bound)) → list_all itself (map (is_bound bound) (map (λ (e : MarkedTerm bound). e.0) es)) ≡ list_all itself (joined (map (word_marks bound) (map (λ (e : MarkedTerm bound). e.0) es)))
args_marked bound [] = refl
args_marked bound (e ∷ es) = ap₂ ◌&&◌ e.1 (args_marked bound es) ∙ sym (all_append (word_marks bound e.0) (joined (map (word_marks bound) (map (λ (d : MarkedTerm bound). d.0) es))))

term_step_marked : (bound : List Word) (y : Term-F (MarkedTerm bound)) → bound_term_step bound (map-Term Term Bool (is_bound bound) (bare_term bound y)) ≡ list_all itself (word_step bound (map-Term Term (List Bool) (word_marks bound) (bare_term bound y)))
term_step_marked bound (t.Var x) = and_true (is_among x bound)
term_step_marked bound (t.Name n) = refl
term_step_marked bound (t.App g es) = args_marked bound es

-- A term is bound exactly where each of its words is no free variable.
pub words_marked : (bound : List Word) (u : Term) → IsTermMarked bound u
words_marked bound = ind-Term (IsTermMarked bound) (λ l y is.
    subst (λ (m : Term-F Term). IsTermMarked bound (roll-Term m)) is
    (fold-roll-Term Bool (bound_term_step bound) (bare_term bound y) ∙ term_step_marked bound y ∙ ap (λ (m : List Bool). list_all itself m) (sym (fold-roll-Term (List Bool) (word_step bound) (bare_term bound y)))))

terms_bound : (bound : List Word) (ts : List Term) → list_all (is_bound bound) ts ≡ list_all itself (joined (map (word_marks bound) ts))
terms_bound bound [] = refl
terms_bound bound (u ∷ ts) = ap₂ ◌&&◌ (words_marked bound u) (terms_bound bound ts) ∙ sym (all_append (word_marks bound u) (joined (map (word_marks bound) ts)))

parts_bound : (bound : List Word) (es : List Kept) → list_all (λ g. g bound) (map closed_under (map (λ (e : Kept). e.0) es)) ≡ list_all itself (joined (map (λ m. m bound) (map boundness (map (λ (e : Kept). e.0) es))))
parts_bound bound [] = refl
parts_bound bound (e ∷ es) = ap₂ ◌&&◌ (e.1 bound) (parts_bound bound es) ∙ sym (all_append (boundness e.0 bound) (joined (map (λ m. m bound) (map boundness (map (λ (d : Kept). d.0) es)))))

two_bound : (bound : List Word) (d e : Kept) → (closed_under d.0 bound && closed_under e.0 bound) ≡ list_all itself (boundness d.0 bound ++ boundness e.0 bound)
two_bound bound d e = ap₂ ◌&&◌ (d.1 bound) (e.1 bound) ∙ sym (all_append (boundness d.0 bound) (boundness e.0 bound))

step_bound : (y : Sent-F Kept) (bound : List Word) → closed_step (map-Sent Sent (List Word → Bool) closed_under (plain y)) bound ≡ list_all itself (bound_step (map-Sent Sent (List Word → List Bool) boundness (plain y)) bound)
step_bound (f.Atom p ts) bound = terms_bound bound ts
step_bound (f.Eq a b) bound = ap₂ ◌&&◌ (words_marked bound a) (words_marked bound b) ∙ sym (all_append (word_marks bound a) (word_marks bound b))
step_bound f.Bottom bound = refl
step_bound (f.Not e) bound = e.1 bound
step_bound (f.And es) bound = parts_bound bound es
step_bound (f.Or es) bound = parts_bound bound es
step_bound (f.If d e) bound = two_bound bound d e
step_bound (f.Iff d e) bound = two_bound bound d e
step_bound (f.All v e) bound = e.1 (v ∷ bound)
step_bound (f.Ex v e) bound = e.1 (v ∷ bound)

-- A sentence is closed exactly where each of its terms is bound.
pub closed_marked : (s : Sent) → IsMarked s
closed_marked = ind-Sent IsMarked (λ l y is.
    subst (λ (m : Sent-F Sent). IsMarked (roll-Sent m)) is (λ bound.
    ap (λ (g : List Word → Bool). g bound) (fold-roll-Sent (List Word → Bool) closed_step (plain y)) ∙ step_bound y bound
    ∙ ap (λ (m : List Word → List Bool). list_all itself (m bound)) (sym (fold-roll-Sent (List Word → List Bool) bound_step (plain y)))))

-- the marks of each form

pub fitting_atom : (p : Word) (ts : List Term) → fitting (Atom p ts) ≡ fits p (length ts) ∷ []
fitting_atom p ts = search (rules, the_lemmas)

pub fitting_eq : (a b : Term) → fitting (Eq a b) ≡ []
fitting_eq a b = search (rules, the_lemmas)

pub fitting_bottom : fitting Bottom ≡ []
fitting_bottom = search (rules, the_lemmas)

pub fitting_not : (s : Sent) → fitting (Not s) ≡ fitting s
fitting_not s = search (rules, the_lemmas)

pub fitting_and : (ss : List Sent) → fitting (And ss) ≡ joined (map fitting ss)
fitting_and ss = search (rules, the_lemmas)

pub fitting_or : (ss : List Sent) → fitting (Or ss) ≡ joined (map fitting ss)
fitting_or ss = search (rules, the_lemmas)

pub fitting_if : (s t : Sent) → fitting (If s t) ≡ fitting s ++ fitting t
fitting_if s t = search (rules, the_lemmas)

pub fitting_iff : (s t : Sent) → fitting (Iff s t) ≡ fitting s ++ fitting t
fitting_iff s t = search (rules, the_lemmas)

pub fitting_all : (x : Word) (s : Sent) → fitting (All x s) ≡ fitting s
fitting_all x s = search (rules, the_lemmas)

pub fitting_ex : (x : Word) (s : Sent) → fitting (Ex x s) ≡ fitting s
fitting_ex x s = search (rules, the_lemmas)

pub bound_atom : (p : Word) (ts : List Term) (bound : List Word) → boundness (Atom p ts) bound ≡ joined (map (word_marks bound) ts)
bound_atom p ts bound = search (rules, the_lemmas)

pub bound_eq : (a b : Term) (bound : List Word) → boundness (Eq a b) bound ≡ word_marks bound a ++ word_marks bound b
bound_eq a b bound = search (rules, the_lemmas)

pub bound_bottom : (bound : List Word) → boundness Bottom bound ≡ []
bound_bottom bound = search (rules, the_lemmas)

pub bound_not : (s : Sent) (bound : List Word) → boundness (Not s) bound ≡ boundness s bound
bound_not s bound = search (rules, the_lemmas)

applied : (bound : List Word) (ss : List Sent) → joined (map (λ m. m bound) (map boundness ss)) ≡ joined (map (λ s. boundness s bound) ss)
applied bound [] = refl
applied bound (s ∷ ss) = ap (λ m. boundness s bound ++ m) (applied bound ss)

pub bound_and : (ss : List Sent) (bound : List Word) → boundness (And ss) bound ≡ joined (map (λ s. boundness s bound) ss)
bound_and ss bound = let e : boundness (And ss) bound ≡ joined (map (λ m. m bound) (map boundness ss)) = search (rules, the_lemmas) in e ∙ applied bound ss

pub bound_or : (ss : List Sent) (bound : List Word) → boundness (Or ss) bound ≡ joined (map (λ s. boundness s bound) ss)
bound_or ss bound = let e : boundness (Or ss) bound ≡ joined (map (λ m. m bound) (map boundness ss)) = search (rules, the_lemmas) in e ∙ applied bound ss

-- the marks of a chain, from those of its parts
pub bound_chain : (s : Sent) (parts ss : List Sent) (bound : List Word) → (s ≡ And parts) ⊎ (s ≡ Or parts) → ss ≡ parts → joined (map (λ t. boundness t bound) ss) ≡ boundness s bound
bound_chain s parts ss bound (inl e) f = ap (λ (ts : List Sent). joined (map (λ t. boundness t bound) ts)) f ∙ sym (bound_and parts bound) ∙ ap (λ (t : Sent). boundness t bound) (sym e)
bound_chain s parts ss bound (inr e) f = ap (λ (ts : List Sent). joined (map (λ t. boundness t bound) ts)) f ∙ sym (bound_or parts bound) ∙ ap (λ (t : Sent). boundness t bound) (sym e)

pub bound_if : (s t : Sent) (bound : List Word) → boundness (If s t) bound ≡ boundness s bound ++ boundness t bound
bound_if s t bound = search (rules, the_lemmas)

pub bound_iff : (s t : Sent) (bound : List Word) → boundness (Iff s t) bound ≡ boundness s bound ++ boundness t bound
bound_iff s t bound = search (rules, the_lemmas)

pub bound_all : (x : Word) (s : Sent) (bound : List Word) → boundness (All x s) bound ≡ boundness s (x ∷ bound)
bound_all x s bound = search (rules, the_lemmas)

pub bound_ex : (x : Word) (s : Sent) (bound : List Word) → boundness (Ex x s) bound ≡ boundness s (x ∷ bound)
bound_ex x s bound = search (rules, the_lemmas)

-- the marks of each form of term

pub marks_var : (x : Word) (bound : List Word) → word_marks bound (Var x) ≡ is_among x bound ∷ []
marks_var x bound = search (rules, term_lemmas)

pub marks_name : (n : Word) (bound : List Word) → word_marks bound (Name n) ≡ true ∷ []
marks_name n bound = search (rules, term_lemmas)

pub marks_app : (g : Word) (ts : List Term) (bound : List Word) → word_marks bound (App g ts) ≡ true ∷ joined (map (word_marks bound) ts)
marks_app g ts bound = search (rules, term_lemmas)
