-- The term that is read off is the one by which a sentence is an instance, if it is an instance by any.
use Rattle.std.proofs.Common.{◌≡◌, List, [], ◌∷◌, map, refl, ap, ap₂, sym, ◌∙◌, subst, Bool, true, false, rules, inl, inr, ◌⊎◌}
use Rattle.std.specs.Prelude.{◌&&◌, not, cond, Option, Some, None}
use Rattle.std.specs.Str.{bytes_eq}
use Rattle.fol_core.specs.declared.sent.Term.{Term, out-Term, roll-Term}
use Rattle.fol_core.specs.declared.sent.Term.TheVariants.{Var, Name, App}
use Rattle.fol_core.specs.declared.sent.Term.TheOpen.{Term-F}
use Rattle.fol_core.specs.declared.sent.Term.TheOpen as t
use Rattle.fol_core.specs.declared.sent.Term.TheFolds.{ind-Term, fold-roll-Term, map-Term}
use Rattle.fol_core.specs.declared.sent.Sent.{Sent, out-Sent, roll-Sent, the_lemmas}
use Rattle.fol_core.specs.declared.sent.Sent.TheOpen.{Sent-F}
use Rattle.fol_core.specs.declared.sent.Sent.TheOpen as f
use Rattle.fol_core.specs.declared.sent.Sent.TheVariants as s
use Rattle.fol_core.specs.declared.sent.Sent.TheFolds.{ind-Sent, fold-roll-Sent, map-Sent}
use Rattle.fol_core.specs.Word.{Word}
use Rattle.fol_core.specs.Subst.{subst_term, subst_term_step, subst_where, subst_step, subst_closed_term}
use Rattle.fol_core.specs.Naming.{or_else, found_in, found_step, first_term, first_given, args_of, each_at, term_where, name_step}
use Rattle.fol_core.proofs.Terms.{out_app}

-- The term o that is read off beside h n is n, or there is none and h is the same at every term.
abbrev IsRead : {Y : Type 0} → (Term → Y) → Term → Option Term → Type 0
IsRead h n o = (o ≡ Some n) ⊎ ((o ≡ None) × ((m : Term) → h m ≡ h n))

read_one : {Y Z : Type 0} (k : Y → Z) (h : Term → Y) (n : Term) (o : Option Term) → IsRead h n o → IsRead (λ m. k (h m)) n o
read_one k h n o (inl e) = inl e
read_one k h n o (inr (e, u)) = inr (e, λ m. ap k (u m))

read_two : {Y Z W : Type 0} (k : Y → Z → W) (h : Term → Y) (g : Term → Z) (n : Term) (o p : Option Term) → IsRead h n o → IsRead g n p → IsRead (λ m. k (h m) (g m)) n (or_else o p)
read_two k h g n o p (inl e) r = inl (ap (λ w. or_else w p) e)
read_two k h g n o p (inr (e, u)) (inl w) = inl (ap₂ or_else e w)
read_two k h g n o p (inr (e, u)) (inr (w, v)) = inr (ap₂ or_else e w, λ m. ap₂ k (u m) (v m))

read_as : {Y : Type 0} (h g : Term → Y) (n : Term) (o p : Option Term) → ((m : Term) → h m ≡ g m) → o ≡ p → IsRead g n p → IsRead h n o
read_as h g n o p same e (inl w) = inl (e ∙ w)
read_as h g n o p same e (inr (w, u)) = inr (e ∙ w, λ m. same m ∙ u m ∙ sym (same n))

-- Of each term what is read off is alone.
abbrev IsLone : Word → Bool → Term → Type 0
IsLone x free u = (n : Term) → IsRead (λ m. subst_term x m free u) n (found_in x free u (subst_term x n free u))

abbrev Lone : Word → Bool → Type 0
Lone x free = (u : Term) × IsLone x free u

abbrev plain : (x : Word) (free : Bool) → Term-F (Lone x free) → Term-F Term
plain x free = map-Term (Lone x free) Term (λ e. e.0)

read_args : (x : Word) (free : Bool) (n : Term) (es : List (Lone x free)) →
    IsRead (λ m. map (subst_term x m free) (map (λ (e : Lone x free). e.0) es)) n
    (first_given (map (found_in x free) (map (λ (e : Lone x free). e.0) es)) (map (subst_term x n free) (map (λ (e : Lone x free). e.0) es)))
read_args x free n [] = inr (refl, λ m. refl)
read_args x free n (e ∷ es) = read_two ◌∷◌ (λ m. subst_term x m free e.0) (λ m. map (subst_term x m free) (map (λ (d : Lone x free). d.0) es)) n _ _ (e.1 n) (read_args x free n es)

abbrev put_in : (x : Word) (free : Bool) (m : Term) → Term-F (Lone x free) → Term
put_in x free m y = subst_term_step x m free (map-Term Term Term (subst_term x m free) (plain x free y))

abbrev finding : (x : Word) (free : Bool) → Term-F (Lone x free) → Term-F (Term → Option Term)
finding x free y = map-Term Term (Term → Option Term) (found_in x free) (plain x free y)

step_lone : (x : Word) (free : Bool) (y : Term-F (Lone x free)) (n : Term) → IsRead (λ m. put_in x free m y) n (found_step x free (finding x free y) (put_in x free n y))
step_lone x free (t.Name k) n = inr (refl, λ m. refl)
step_lone x free (t.Var y) n = go (free && bytes_eq y x)
  where
    go : (b : Bool) → IsRead (λ (m : Term). cond b m (Var y)) n (cond b (Some (cond b n (Var y))) None)
    go true = inl refl
    go false = inr (refl, λ m. refl)
step_lone x free (t.App g es) n = read_as (λ m. put_in x free m (t.App g es)) _ n _ _ (λ m. refl)
    (ap (λ w. first_given (map (found_in x free) (map (λ (e : Lone x free). e.0) es)) (args_of w)) (out_app g (map (subst_term x n free) (map (λ (e : Lone x free). e.0) es))))
    (read_one (App g) (λ m. map (subst_term x m free) (map (λ (e : Lone x free). e.0) es)) n _ (read_args x free n es))

read_term : (x : Word) (free : Bool) (n : Term) (u : Term) → IsRead (λ m. subst_term x m free u) n (found_in x free u (subst_term x n free u))
read_term x free n u = lone u n
  where
    lone : (u : Term) → IsLone x free u
    lone = ind-Term (IsLone x free) (λ l y is.
        subst (λ (w : Term-F Term). IsLone x free (roll-Term w)) is (λ n.
        let as_put : (m : Term) → subst_term x m free (roll-Term (plain x free y)) ≡ put_in x free m y = λ m. fold-roll-Term Term (subst_term_step x m free) (plain x free y) in
        read_as (λ m. subst_term x m free (roll-Term (plain x free y))) (λ m. put_in x free m y) n _ _ as_put
        (ap (λ (g : Term → Option Term). g (subst_term x n free (roll-Term (plain x free y)))) (fold-roll-Term (Term → Option Term) (found_step x free) (plain x free y))
        ∙ ap (found_step x free (finding x free y)) (as_put n))
        (step_lone x free y n)))

read_terms : (x : Word) (free : Bool) (n : Term) (ts : List Term) → IsRead (λ m. map (subst_term x m free) ts) n (first_term (found_in x free) ts (map (subst_term x n free) ts))
read_terms x free n [] = inr (refl, λ m. refl)
read_terms x free n (t ∷ ts) = read_two ◌∷◌ (λ m. subst_term x m free t) (λ m. map (subst_term x m free) ts) n _ _ (read_term x free n t) (read_terms x free n ts)

-- Of each sentence the term that is read off is alone.
abbrev IsAlone : Word → Sent → Type 0
IsAlone x p = (free : Bool) (n : Term) → IsRead (λ m. subst_where x m p free) n (term_where x p free (subst_where x n p free))

abbrev Held : Word → Type 0
Held x = (p : Sent) × IsAlone x p

abbrev bare : (x : Word) → Sent-F (Held x) → Sent-F Sent
bare x = map-Sent (Held x) Sent (λ e. e.0)

abbrev put_into : (x : Word) (m : Term) → List (Held x) → Bool → List Sent
put_into x m es free = map (λ (g : Bool → Sent). g free) (map (subst_where x m) (map (λ (e : Held x). e.0) es))

read_parts : (x : Word) (free : Bool) (n : Term) (es : List (Held x)) →
    IsRead (λ m. put_into x m es free) n (first_given (each_at free (map (term_where x) (map (λ (e : Held x). e.0) es))) (put_into x n es free))
read_parts x free n [] = inr (refl, λ m. refl)
read_parts x free n (e ∷ es) = read_two ◌∷◌ (λ m. subst_where x m e.0 free) (λ m. put_into x m es free) n _ _ (e.1 free n) (read_parts x free n es)

out_atom : (p : Word) (ts : List Term) → out-Sent (s.Atom p ts) ≡ f.Atom p ts
out_atom p ts = search (rules, the_lemmas)

out_eq : (a b : Term) → out-Sent (s.Eq a b) ≡ f.Eq a b
out_eq a b = search (rules, the_lemmas)

out_not : (p : Sent) → out-Sent (s.Not p) ≡ f.Not p
out_not p = search (rules, the_lemmas)

out_and : (ps : List Sent) → out-Sent (s.And ps) ≡ f.And ps
out_and ps = search (rules, the_lemmas)

out_or : (ps : List Sent) → out-Sent (s.Or ps) ≡ f.Or ps
out_or ps = search (rules, the_lemmas)

out_if : (p q : Sent) → out-Sent (s.If p q) ≡ f.If p q
out_if p q = search (rules, the_lemmas)

out_iff : (p q : Sent) → out-Sent (s.Iff p q) ≡ f.Iff p q
out_iff p q = search (rules, the_lemmas)

out_all : (x : Word) (p : Sent) → out-Sent (s.All x p) ≡ f.All x p
out_all x p = search (rules, the_lemmas)

out_ex : (x : Word) (p : Sent) → out-Sent (s.Ex x p) ≡ f.Ex x p
out_ex x p = search (rules, the_lemmas)

abbrev names : (x : Word) → Sent-F (Held x) → Sent-F (Bool → Sent → Option Term)
names x y = map-Sent Sent (Bool → Sent → Option Term) (term_where x) (bare x y)

abbrev put : (x : Word) (m : Term) → Sent-F (Held x) → Bool → Sent
put x m y free = subst_step x m (map-Sent Sent (Bool → Sent) (subst_where x m) (bare x y)) free

same_put : {Y : Type 0} (h : Term → Y) (m : Term) → h m ≡ h m
same_put h m = refl

step_alone : (x : Word) (y : Sent-F (Held x)) (free : Bool) (n : Term) → IsRead (λ m. put x m y free) n (name_step x (names x y) free (out-Sent (put x n y free)))
step_alone x (f.Atom p ts) free n = read_as (λ m. put x m (f.Atom p ts) free) _ n _ _ (λ m. refl) (ap (name_step x (names x (f.Atom p ts)) free) (out_atom p (map (subst_term x n free) ts)))
    (read_one (s.Atom p) (λ m. map (subst_term x m free) ts) n _ (read_terms x free n ts))
step_alone x (f.Eq a b) free n = read_as (λ m. put x m (f.Eq a b) free) _ n _ _ (λ m. refl) (ap (name_step x (names x (f.Eq a b)) free) (out_eq (subst_term x n free a) (subst_term x n free b)))
    (read_two s.Eq (λ m. subst_term x m free a) (λ m. subst_term x m free b) n _ _ (read_term x free n a) (read_term x free n b))
step_alone x f.Bottom free n = inr (refl, λ m. refl)
step_alone x (f.Not h) free n = read_as (λ m. put x m (f.Not h) free) _ n _ _ (λ m. refl) (ap (name_step x (names x (f.Not h)) free) (out_not (subst_where x n h.0 free)))
    (read_one s.Not (λ m. subst_where x m h.0 free) n _ (h.1 free n))
step_alone x (f.And es) free n = read_as (λ m. put x m (f.And es) free) _ n _ _ (λ m. refl) (ap (name_step x (names x (f.And es)) free) (out_and (put_into x n es free)))
    (read_one s.And (λ m. put_into x m es free) n _ (read_parts x free n es))
step_alone x (f.Or es) free n = read_as (λ m. put x m (f.Or es) free) _ n _ _ (λ m. refl) (ap (name_step x (names x (f.Or es)) free) (out_or (put_into x n es free)))
    (read_one s.Or (λ m. put_into x m es free) n _ (read_parts x free n es))
step_alone x (f.If g h) free n = read_as (λ m. put x m (f.If g h) free) _ n _ _ (λ m. refl) (ap (name_step x (names x (f.If g h)) free) (out_if (subst_where x n g.0 free) (subst_where x n h.0 free)))
    (read_two s.If (λ m. subst_where x m g.0 free) (λ m. subst_where x m h.0 free) n _ _ (g.1 free n) (h.1 free n))
step_alone x (f.Iff g h) free n = read_as (λ m. put x m (f.Iff g h) free) _ n _ _ (λ m. refl) (ap (name_step x (names x (f.Iff g h)) free) (out_iff (subst_where x n g.0 free) (subst_where x n h.0 free)))
    (read_two s.Iff (λ m. subst_where x m g.0 free) (λ m. subst_where x m h.0 free) n _ _ (g.1 free n) (h.1 free n))
step_alone x (f.All z h) free n = read_as (λ m. put x m (f.All z h) free) _ n _ _ (λ m. refl) (ap (name_step x (names x (f.All z h)) free) (out_all z (subst_where x n h.0 (free && not (bytes_eq z x)))))
    (read_one (s.All z) (λ m. subst_where x m h.0 (free && not (bytes_eq z x))) n _ (h.1 (free && not (bytes_eq z x)) n))
step_alone x (f.Ex z h) free n = read_as (λ m. put x m (f.Ex z h) free) _ n _ _ (λ m. refl) (ap (name_step x (names x (f.Ex z h)) free) (out_ex z (subst_where x n h.0 (free && not (bytes_eq z x)))))
    (read_one (s.Ex z) (λ m. subst_where x m h.0 (free && not (bytes_eq z x))) n _ (h.1 (free && not (bytes_eq z x)) n))

alone : (x : Word) (p : Sent) → IsAlone x p
alone x = ind-Sent (IsAlone x) (λ l y is.
    subst (λ (w : Sent-F Sent). IsAlone x (roll-Sent w)) is (λ free n.
    let as_put : (m : Term) → subst_where x m (roll-Sent (bare x y)) free ≡ put x m y free = λ m. ap (λ (g : Bool → Sent). g free) (fold-roll-Sent (Bool → Sent) (subst_step x m) (bare x y)) in
    read_as (λ m. subst_where x m (roll-Sent (bare x y)) free) (λ m. put x m y free) n _ _ as_put
    (ap (λ (g : Bool → Sent → Option Term). g free (subst_where x n (roll-Sent (bare x y)) free)) (fold-roll-Sent (Bool → Sent → Option Term) (λ p free s. name_step x p free (out-Sent s)) (bare x y))
    ∙ ap (λ (q : Sent). name_step x (names x y) free (out-Sent q)) (as_put n))
    (step_alone x y free n)))

-- If a sentence is the instance by a term, this term is read off, or none is, and then the sentence is the instance by each term.
pub term_alone : (x : Word) (n : Term) (q r : Sent) → r ≡ subst_closed_term x n q → (term_where x q true r ≡ Some n) ⊎ ((term_where x q true r ≡ None) × ((m : Term) → r ≡ subst_closed_term x m q))
term_alone x n q r e = go (alone x q true n)
  where
    go : IsRead (λ m. subst_where x m q true) n (term_where x q true (subst_where x n q true)) → (term_where x q true r ≡ Some n) ⊎ ((term_where x q true r ≡ None) × ((m : Term) → r ≡ subst_closed_term x m q))
    go (inl w) = inl (ap (term_where x q true) e ∙ w)
    go (inr (w, u)) = inr (ap (term_where x q true) e ∙ w, λ m. e ∙ sym (u m))
