-- Closed terms put in for other variables don't change what is read off for a variable.
use Rattle.std.proofs.Common.{◌≡◌, List, [], ◌∷◌, map, refl, ap, ap₂, sym, ◌∙◌, subst, Bool, true, false, true≢false, IsTrue, rules}
use Rattle.std.specs.Prelude.{◌&&◌, not, cond, Option, Some, None, IfSome}
use Rattle.std.specs.List.{list_all}
use Rattle.std.specs.Str.{bytes_eq}
use Rattle.std.proofs.lemmas.Bool.{and_parts}
use Rattle.fol_core.specs.declared.sent.Term.{Term, out-Term, roll-Term}
use Rattle.fol_core.specs.declared.sent.Term.{the_lemmas as term_lemmas}
use Rattle.fol_core.specs.declared.sent.Term.TheVariants.{Var, Name, App}
use Rattle.fol_core.specs.declared.sent.Term.TheOpen.{Term-F}
use Rattle.fol_core.specs.declared.sent.Term.TheOpen as t
use Rattle.fol_core.specs.declared.sent.Term.TheFolds.{ind-Term, fold-roll-Term, map-Term}
use Rattle.fol_core.specs.declared.sent.Sent.{Sent, out-Sent, roll-Sent, the_lemmas}
use Rattle.fol_core.specs.declared.sent.Sent.TheOpen.{Sent-F}
use Rattle.fol_core.specs.declared.sent.Sent.TheOpen as f
use Rattle.fol_core.specs.declared.sent.Sent.TheVariants as s
use Rattle.fol_core.specs.declared.sent.Sent.TheFolds.{ind-Sent, fold-roll-Sent, map-Sent}
use Rattle.fol_core.specs.Word.{Word}
use Rattle.fol_core.specs.Closed.{is_bound, bound_step}
use Rattle.fol_core.specs.Statements.{ground}
use Rattle.fol_core.specs.Subst.{itself}
use Rattle.fol_core.specs.Naming.{or_else, found_in, found_step, args_of, first_term, first_given, each_at, name_step, term_where}
use Rattle.fol_core.proofs.Equality.{word_same}
use Rattle.rules_quant.specs.Naming.{Entry, term_for, or_itself, HaveGround, put_term_step, put_term, hiding, put_step, put}
use Rattle.rules_quant.proofs.Grounds.{ground_closed}
use Rattle.rules_quant.proofs.PutNames.{hidden_ground}

-- Where x is free, it has no term.
abbrev Unnamed : Word → Bool → List Entry → Type 0
Unnamed x free es = free ≡ true → term_for es x ≡ None

abbrev ReadsSame : Word → Sent → Type 0
ReadsSame x p = (free : Bool) (es : List Entry) → HaveGround es → Unnamed x free es → (t : Sent) → term_where x (put p es) free t ≡ term_where x p free t

abbrev Held : Word → Type 0
Held x = (p : Sent) × ReadsSame x p

abbrev bare : (x : Word) → Sent-F (Held x) → Sent-F Sent
bare x = map-Sent (Held x) Sent (λ e. e.0)

read_atom : (x p : Word) (ts : List Term) (free : Bool) (t : Sent) → term_where x (s.Atom p ts) free t ≡ name_step x (f.Atom p ts) free (out-Sent t)
read_atom x p ts free t = search (rules, the_lemmas)

read_eq : (x : Word) (a b : Term) (free : Bool) (t : Sent) → term_where x (s.Eq a b) free t ≡ name_step x (f.Eq a b) free (out-Sent t)
read_eq x a b free t = search (rules, the_lemmas)

read_bottom : (x : Word) (free : Bool) (t : Sent) → term_where x s.Bottom free t ≡ name_step x f.Bottom free (out-Sent t)
read_bottom x free t = search (rules, the_lemmas)

read_not : (x : Word) (p : Sent) (free : Bool) (t : Sent) → term_where x (s.Not p) free t ≡ name_step x (f.Not (term_where x p)) free (out-Sent t)
read_not x p free t = search (rules, the_lemmas)

read_and : (x : Word) (ps : List Sent) (free : Bool) (t : Sent) → term_where x (s.And ps) free t ≡ name_step x (f.And (map (term_where x) ps)) free (out-Sent t)
read_and x ps free t = search (rules, the_lemmas)

read_or : (x : Word) (ps : List Sent) (free : Bool) (t : Sent) → term_where x (s.Or ps) free t ≡ name_step x (f.Or (map (term_where x) ps)) free (out-Sent t)
read_or x ps free t = search (rules, the_lemmas)

read_if : (x : Word) (p q : Sent) (free : Bool) (t : Sent) → term_where x (s.If p q) free t ≡ name_step x (f.If (term_where x p) (term_where x q)) free (out-Sent t)
read_if x p q free t = search (rules, the_lemmas)

read_iff : (x : Word) (p q : Sent) (free : Bool) (t : Sent) → term_where x (s.Iff p q) free t ≡ name_step x (f.Iff (term_where x p) (term_where x q)) free (out-Sent t)
read_iff x p q free t = search (rules, the_lemmas)

read_all : (x y : Word) (p : Sent) (free : Bool) (t : Sent) → term_where x (s.All y p) free t ≡ name_step x (f.All y (term_where x p)) free (out-Sent t)
read_all x y p free t = search (rules, the_lemmas)

read_ex : (x y : Word) (p : Sent) (free : Bool) (t : Sent) → term_where x (s.Ex y p) free t ≡ name_step x (f.Ex y (term_where x p)) free (out-Sent t)
read_ex x y p free t = search (rules, the_lemmas)

-- In a closed term nothing is read off.
abbrev FindsNone : Word → Bool → Term → Type 0
FindsNone x free m = is_bound [] m ≡ true → (u : Term) → found_in x free m u ≡ None

abbrev Empty : Word → Bool → Type 0
Empty x free = (m : Term) × FindsNone x free m

abbrev emptied : (x : Word) (free : Bool) → Term-F (Empty x free) → Term-F Term
emptied x free = map-Term (Empty x free) Term (λ e. e.0)

args_empty : (x : Word) (free : Bool) (hs : List (Empty x free)) → list_all itself (map (is_bound []) (map (λ (e : Empty x free). e.0) hs)) ≡ true → (us : List Term) →
    first_given (map (found_in x free) (map (λ (e : Empty x free). e.0) hs)) us ≡ None
args_empty x free [] e us = refl
args_empty x free (h ∷ hs) e [] = refl
args_empty x free (h ∷ hs) e (u ∷ us) =
    let w = and_parts (is_bound [] h.0) (list_all itself (map (is_bound []) (map (λ (d : Empty x free). d.0) hs))) e in
    ap₂ or_else (h.1 w.0 u) (args_empty x free hs w.1 us)

step_empty : (x : Word) (free : Bool) (y : Term-F (Empty x free)) → bound_step [] (map-Term Term Bool (is_bound []) (emptied x free y)) ≡ true → (u : Term) →
    found_step x free (map-Term Term (Term → Option Term) (found_in x free) (emptied x free y)) u ≡ None
step_empty x free (t.Var z) e u = absurd (true≢false (sym e))
step_empty x free (t.Name k) e u = refl
step_empty x free (t.App g hs) e u = args_empty x free hs e (args_of (out-Term u))

none_found : (x : Word) (free : Bool) (m : Term) → FindsNone x free m
none_found x free = ind-Term (FindsNone x free) (λ l y is.
    subst (λ (w : Term-F Term). FindsNone x free (roll-Term w)) is (λ e u.
    ap (λ (g : Term → Option Term). g u) (fold-roll-Term (Term → Option Term) (found_step x free) (emptied x free y))
    ∙ step_empty x free y (sym (fold-roll-Term Bool (bound_step []) (emptied x free y)) ∙ e) u))

-- one term
flag_off : (x y : Word) (m : Term) (free : Bool) (es : List Entry) → Unnamed x free es → term_for es y ≡ Some m → (free && bytes_eq y x) ≡ false
flag_off x y m free es u e = go (free && bytes_eq y x) refl
  where
    go : (b : Bool) → (free && bytes_eq y x) ≡ b → b ≡ false
    go false g = refl
    go true g =
        let w = and_parts free (bytes_eq y x) g in
        let q : Some m ≡ None = sym e ∙ ap (term_for es) (word_same y x w.1) ∙ u w.0 in cc

abbrev ReadsTerm : Word → Bool → List Entry → Term → Type 0
ReadsTerm x free es v = (u : Term) → found_in x free (put_term es v) u ≡ found_in x free v u

abbrev HeldTerm : Word → Bool → List Entry → Type 0
HeldTerm x free es = (v : Term) × ReadsTerm x free es v

abbrev bare_term : (x : Word) (free : Bool) (es : List Entry) → Term-F (HeldTerm x free es) → Term-F Term
bare_term x free es = map-Term (HeldTerm x free es) Term (λ e. e.0)

find_var : (x y : Word) (free : Bool) (u : Term) → found_in x free (Var y) u ≡ cond (free && bytes_eq y x) (Some u) None
find_var x y free u = search (rules, term_lemmas)

find_name : (x k : Word) (free : Bool) (u : Term) → found_in x free (Name k) u ≡ None
find_name x k free u = search (rules, term_lemmas)

find_app : (x g : Word) (free : Bool) (ts : List Term) (u : Term) → found_in x free (App g ts) u ≡ first_given (map (found_in x free) ts) (args_of (out-Term u))
find_app x g free ts u = search (rules, term_lemmas)

args_read : (x : Word) (free : Bool) (es : List Entry) (hs : List (HeldTerm x free es)) (us : List Term) →
    first_given (map (found_in x free) (map (put_term es) (map (λ (e : HeldTerm x free es). e.0) hs))) us ≡ first_given (map (found_in x free) (map (λ (e : HeldTerm x free es). e.0) hs)) us
args_read x free es [] us = refl
args_read x free es (h ∷ hs) [] = refl
args_read x free es (h ∷ hs) (u ∷ us) = ap₂ or_else (h.1 u) (args_read x free es hs us)

term_step : (x : Word) (free : Bool) (es : List Entry) → HaveGround es → Unnamed x free es → (y : Term-F (HeldTerm x free es)) (u : Term) →
    found_in x free (put_term_step es (map-Term Term Term (put_term es) (bare_term x free es y))) u ≡ found_step x free (map-Term Term (Term → Option Term) (found_in x free) (bare_term x free es y)) u
term_step x free es c n (t.Name k) u = find_name x k free u
term_step x free es c n (t.App g hs) u = find_app x g free _ u ∙ args_read x free es hs (args_of (out-Term u))
term_step x free es c n (t.Var y) u = go (term_for es y) refl (c y)
  where
    go : (o : Option Term) → term_for es y ≡ o → IfSome o (λ r. IsTrue (ground r)) → found_in x free (or_itself o y) u ≡ cond (free && bytes_eq y x) (Some u) None
    go None e k = find_var x y free u
    go (Some m) e k = none_found x free m (ground_closed m k) u ∙ sym (ap (λ b. cond b (Some u) None) (flag_off x y m free es n e))

term_reads : (x : Word) (free : Bool) (es : List Entry) → HaveGround es → Unnamed x free es → (v : Term) → ReadsTerm x free es v
term_reads x free es c n = ind-Term (ReadsTerm x free es) (λ l y is.
    subst (λ (w : Term-F Term). ReadsTerm x free es (roll-Term w)) is (λ u.
    ap (λ (v : Term). found_in x free v u) (fold-roll-Term Term (put_term_step es) (bare_term x free es y))
    ∙ term_step x free es c n y u
    ∙ sym (ap (λ (g : Term → Option Term). g u) (fold-roll-Term (Term → Option Term) (found_step x free) (bare_term x free es y)))))

terms_read : (x : Word) (free : Bool) (es : List Entry) → HaveGround es → Unnamed x free es → (ts us : List Term) → first_term (found_in x free) (map (put_term es) ts) us ≡ first_term (found_in x free) ts us
terms_read x free es c n [] us = refl
terms_read x free es c n (t ∷ ts) [] = refl
terms_read x free es c n (t ∷ ts) (u ∷ us) = ap₂ or_else (term_reads x free es c n t u) (terms_read x free es c n ts us)

abbrev part_puts : (x : Word) → List Entry → List (Held x) → List Sent
part_puts x es hs = map (λ (h : List Entry → Sent). h es) (map put (map (λ (e : Held x). e.0) hs))

parts_read : (x : Word) (free : Bool) (es : List Entry) → HaveGround es → Unnamed x free es → (hs : List (Held x)) (ts : List Sent) →
    first_given (each_at free (map (term_where x) (map (λ (h : List Entry → Sent). h es) (map put (map (λ (e : Held x). e.0) hs))))) ts ≡ first_given (each_at free (map (term_where x) (map (λ (e : Held x). e.0) hs))) ts
parts_read x free es c n [] ts = refl
parts_read x free es c n (h ∷ hs) [] = refl
parts_read x free es c n (h ∷ hs) (t ∷ ts) = ap₂ or_else (h.1 free es c n t) (parts_read x free es c n hs ts)

-- below a quantifier
unnamed_under : (x z : Word) (free : Bool) (es : List Entry) → Unnamed x free es → Unnamed x (free && not (bytes_eq z x)) (hiding z es)
unnamed_under x z free es n e = go (bytes_eq z x)
  where
    go : (b : Bool) → cond b None (term_for es x) ≡ None
    go true = refl
    go false = n ((and_parts free (not (bytes_eq z x)) e).0)

abbrev names : (x : Word) → Sent-F (Held x) → Sent-F (Bool → Sent → Option Term)
names x y = map-Sent Sent (Bool → Sent → Option Term) (term_where x) (bare x y)

abbrev puts : (x : Word) → Sent-F (Held x) → List Entry → Sent
puts x y es = put_step (map-Sent Sent (List Entry → Sent) put (bare x y)) es

atoms_read : (x p : Word) (free : Bool) (es : List Entry) → HaveGround es → Unnamed x free es → (ts : List Term) (t : Sent-F Sent) → name_step x (f.Atom p (map (put_term es) ts)) free t ≡ name_step x (f.Atom p ts) free t
atoms_read x p free es c n ts (f.Atom q us) = terms_read x free es c n ts us
atoms_read x p free es c n ts t = refl

equations_read : (x : Word) (free : Bool) (es : List Entry) → HaveGround es → Unnamed x free es → (a b : Term) (t : Sent-F Sent) → name_step x (f.Eq (put_term es a) (put_term es b)) free t ≡ name_step x (f.Eq a b) free t
equations_read x free es c n a b (f.Eq u v) = ap₂ or_else (term_reads x free es c n a u) (term_reads x free es c n b v)
equations_read x free es c n a b t = refl

nots_read : (x : Word) (free : Bool) (g h : Bool → Sent → Option Term) → ((t : Sent) → g free t ≡ h free t) → (t : Sent-F Sent) → name_step x (f.Not g) free t ≡ name_step x (f.Not h) free t
nots_read x free g h e (f.Not q) = e q
nots_read x free g h e t = refl

ands_read : (x : Word) (free : Bool) (gs hs : List (Bool → Sent → Option Term)) → ((ts : List Sent) → first_given (each_at free gs) ts ≡ first_given (each_at free hs) ts) → (t : Sent-F Sent) →
    name_step x (f.And gs) free t ≡ name_step x (f.And hs) free t
ands_read x free gs hs e (f.And qs) = e qs
ands_read x free gs hs e t = refl

ors_read : (x : Word) (free : Bool) (gs hs : List (Bool → Sent → Option Term)) → ((ts : List Sent) → first_given (each_at free gs) ts ≡ first_given (each_at free hs) ts) → (t : Sent-F Sent) →
    name_step x (f.Or gs) free t ≡ name_step x (f.Or hs) free t
ors_read x free gs hs e (f.Or qs) = e qs
ors_read x free gs hs e t = refl

ifs_read : (x : Word) (free : Bool) (g h k l : Bool → Sent → Option Term) → ((t : Sent) → g free t ≡ k free t) → ((t : Sent) → h free t ≡ l free t) → (t : Sent-F Sent) →
    name_step x (f.If g h) free t ≡ name_step x (f.If k l) free t
ifs_read x free g h k l d e (f.If q r) = ap₂ or_else (d q) (e r)
ifs_read x free g h k l d e t = refl

iffs_read : (x : Word) (free : Bool) (g h k l : Bool → Sent → Option Term) → ((t : Sent) → g free t ≡ k free t) → ((t : Sent) → h free t ≡ l free t) → (t : Sent-F Sent) →
    name_step x (f.Iff g h) free t ≡ name_step x (f.Iff k l) free t
iffs_read x free g h k l d e (f.Iff q r) = ap₂ or_else (d q) (e r)
iffs_read x free g h k l d e t = refl

alls_read : (x z : Word) (free : Bool) (g h : Bool → Sent → Option Term) → ((t : Sent) → g (free && not (bytes_eq z x)) t ≡ h (free && not (bytes_eq z x)) t) → (t : Sent-F Sent) →
    name_step x (f.All z g) free t ≡ name_step x (f.All z h) free t
alls_read x z free g h e (f.All y q) = e q
alls_read x z free g h e t = refl

exs_read : (x z : Word) (free : Bool) (g h : Bool → Sent → Option Term) → ((t : Sent) → g (free && not (bytes_eq z x)) t ≡ h (free && not (bytes_eq z x)) t) → (t : Sent-F Sent) →
    name_step x (f.Ex z g) free t ≡ name_step x (f.Ex z h) free t
exs_read x z free g h e (f.Ex y q) = e q
exs_read x z free g h e t = refl

step_reads : (x : Word) (y : Sent-F (Held x)) (free : Bool) (es : List Entry) → HaveGround es → Unnamed x free es → (t : Sent) → term_where x (puts x y es) free t ≡ name_step x (names x y) free (out-Sent t)
step_reads x (f.Atom p ts) free es c n t = read_atom x p _ free t ∙ atoms_read x p free es c n ts (out-Sent t)
step_reads x (f.Eq a b) free es c n t = read_eq x _ _ free t ∙ equations_read x free es c n a b (out-Sent t)
step_reads x f.Bottom free es c n t = read_bottom x free t
step_reads x (f.Not h) free es c n t = read_not x _ free t ∙ nots_read x free (term_where x (put h.0 es)) (term_where x h.0) (h.1 free es c n) (out-Sent t)
step_reads x (f.And hs) free es c n t = read_and x _ free t ∙ ands_read x free (map (term_where x) (part_puts x es hs)) (map (term_where x) (map (λ (e : Held x). e.0) hs)) (parts_read x free es c n hs) (out-Sent t)
step_reads x (f.Or hs) free es c n t = read_or x _ free t ∙ ors_read x free (map (term_where x) (part_puts x es hs)) (map (term_where x) (map (λ (e : Held x). e.0) hs)) (parts_read x free es c n hs) (out-Sent t)
step_reads x (f.If g h) free es c n t = read_if x _ _ free t ∙ ifs_read x free (term_where x (put g.0 es)) (term_where x (put h.0 es)) (term_where x g.0) (term_where x h.0) (g.1 free es c n) (h.1 free es c n) (out-Sent t)
step_reads x (f.Iff g h) free es c n t = read_iff x _ _ free t ∙ iffs_read x free (term_where x (put g.0 es)) (term_where x (put h.0 es)) (term_where x g.0) (term_where x h.0) (g.1 free es c n) (h.1 free es c n) (out-Sent t)
step_reads x (f.All z h) free es c n t = read_all x z _ free t ∙ alls_read x z free (term_where x (put h.0 (hiding z es))) (term_where x h.0) (h.1 (free && not (bytes_eq z x)) (hiding z es) (hidden_ground z es c) (unnamed_under x z free es n)) (out-Sent t)
step_reads x (f.Ex z h) free es c n t = read_ex x z _ free t ∙ exs_read x z free (term_where x (put h.0 (hiding z es))) (term_where x h.0) (h.1 (free && not (bytes_eq z x)) (hiding z es) (hidden_ground z es c) (unnamed_under x z free es n)) (out-Sent t)

pub reads_same : (x : Word) (p : Sent) → ReadsSame x p
reads_same x = ind-Sent (ReadsSame x) (λ l y is.
    subst (λ (m : Sent-F Sent). ReadsSame x (roll-Sent m)) is (λ free es c n t.
    ap (λ (q : Sent). term_where x q free t) (ap (λ (g : List Entry → Sent). g es) (fold-roll-Sent (List Entry → Sent) put_step (bare x y)))
    ∙ step_reads x y free es c n t
    ∙ sym (ap (λ (g : Bool → Sent → Option Term). g free t) (fold-roll-Sent (Bool → Sent → Option Term) (λ p free s. name_step x p free (out-Sent s)) (bare x y)))))
