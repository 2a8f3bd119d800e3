-- How the terms of a branch that goes on are gathered.
use Rattle.std.proofs.Common.{◌≡◌, ◌<◌, ℕ, ◌+◌, List, [], ◌∷◌, ◌++◌, length, map, filter, take, get_or, refl, ap, ap₂, sym, ◌∙◌, Bool, true, false, not, ◌&&◌, ◌||◌, rules}
use Rattle.std.specs.Prelude.{if◌then◌else◌}
use Rattle.std.specs.List.{flat_map}
use Rattle.std.proofs.lemmas.Grind.{flat_map-append}
use Rattle.fol_core.specs.Word.{Word}
use Rattle.fol_core.specs.declared.sent.Term.{Term}
use Rattle.fol_core.specs.declared.sent.Term.TheOpen as t
use Rattle.fol_core.specs.declared.sent.Term.TheVariants.{Var, Name, App}
use Rattle.fol_core.specs.declared.sent.Sent.{Sent, the_lemmas}
use Rattle.fol_core.specs.declared.sent.Sent.TheVariants as v
use Rattle.fol_core.specs.Statements.{ground}
use Rattle.fol_core.specs.Alike.{same_term}
use Rattle.fol_core.proofs.TermEquality.{rolls_var, rolls_name, rolls_app}
use Rattle.deriv_laws.proofs.Lists.{flat_more}
use Rattle.tableau_laws.specs.declared.literal.Literal.{Literal as Signed}
use Rattle.tableau_laws.specs.Terms.{parts_of_term}
use Rattle.tableau_laws.specs.Branch.{is_one_of, once, joined_terms, all_terms_in, terms_in, terms_on}
use Rattle.tableau_laws.proofs.TermsOn.{parts_is}
use Rattle.tableau_branch.specs.inside.Gathered.{with_one, gathered}

abbrev Alike : List Term → List Term → Type 0
Alike us vs = (t : Term) → is_one_of t us ≡ is_one_of t vs

more_alike : (us vs : List Term) (u : Term) → Alike us vs → Alike (u ∷ us) (u ∷ vs)
more_alike us vs u h = λ t. ap (λ z. same_term u t || z) (h t)

once_alike : (us vs ts : List Term) → Alike us vs → once us ts ≡ once vs ts
once_alike us vs [] h = refl
once_alike us vs (t ∷ ts) h =
    ap (λ z. if z then once us ts else t ∷ once (t ∷ us) ts) (h t)
    ∙ ap₂ (λ x y. if is_one_of t vs then x else t ∷ y) (once_alike us vs ts h) (once_alike (t ∷ us) (t ∷ vs) ts (more_alike us vs t h))

one_of_both : (u : Term) (xs ys : List Term) → is_one_of u (xs ++ ys) ≡ (is_one_of u xs || is_one_of u ys)
one_of_both u [] ys = refl
one_of_both u (x ∷ xs) ys = by (same_term x u) (is_one_of u (xs ++ ys)) (is_one_of u xs) (is_one_of u ys) (one_of_both u xs ys)
  where
    by : (b c d e : Bool) → c ≡ (d || e) → (b || c) ≡ ((b || d) || e)
    by true c d e h = refl
    by false c d e h = h

moved : (us vs : List Term) (u : Term) → Alike (us ++ u ∷ vs) (u ∷ us ++ vs)
moved us vs u = λ t. one_of_both t us (u ∷ vs) ∙ by (is_one_of t us) (same_term u t) (is_one_of t vs) ∙ ap (λ z. same_term u t || z) (sym (one_of_both t us vs))
  where
    by : (a b c : Bool) → (a || (b || c)) ≡ (b || (a || c))
    by true true c = refl
    by true false c = refl
    by false true c = refl
    by false false c = refl

pull : (a : Bool) (x : Term) (us vs ws zs : List Term) → (if a then us ++ vs else x ∷ (ws ++ zs)) ≡ ((if a then us else x ∷ ws) ++ (if a then vs else zs))
pull true x us vs ws zs = refl
pull false x us vs ws zs = refl

after : (a : Bool) (x : Term) (seen ws ts us : List Term) → (if a then once (ws ++ seen) us else once (ts ++ x ∷ seen) us) ≡ once ((if a then ws else x ∷ ts) ++ seen) us
after true x seen ws ts us = refl
after false x seen ws ts us = once_alike (ts ++ x ∷ seen) (x ∷ ts ++ seen) us (moved ts seen x)

once_both : (seen ts us : List Term) → once seen (ts ++ us) ≡ once seen ts ++ once (once seen ts ++ seen) us
once_both seen [] us = refl
once_both seen (t ∷ ts) us =
    ap₂ (λ x y. if is_one_of t seen then x else t ∷ y) (once_both seen ts us) (once_both (t ∷ seen) ts us)
    ∙ pull (is_one_of t seen) t (once seen ts) (once (once seen ts ++ seen) us) (once (t ∷ seen) ts) (once (once (t ∷ seen) ts ++ t ∷ seen) us)
    ∙ ap (λ z. once seen (t ∷ ts) ++ z) (after (is_one_of t seen) t seen (once seen ts) (once (t ∷ seen) ts) us)

no_more : (ts : List Term) → ts ++ [] ≡ ts
no_more [] = refl
no_more (t ∷ ts) = ap (λ us. t ∷ us) (no_more ts)

-- a branch that goes on: its terms stay the first, in their order
pub terms_more : (b new : List Signed) → terms_on (b ++ new) ≡ terms_on b ++ once (terms_on b) (flat_map (λ l. terms_in l.sentence) new)
terms_more b new =
    ap (once []) (flat_map-append (λ (l : Signed). terms_in l.sentence) b new)
    ∙ once_both [] (flat_map (λ l. terms_in l.sentence) b) (flat_map (λ l. terms_in l.sentence) new)
    ∙ ap (λ z. terms_on b ++ once z (flat_map (λ l. terms_in l.sentence) new)) (no_more (terms_on b))

-- one term after the other
pub terms_one : (seen ts : List Term) (t : Term) → seen ++ once seen (t ∷ ts) ≡ (if is_one_of t seen then seen ++ once seen ts else (seen ++ t ∷ []) ++ once (seen ++ t ∷ []) ts)
terms_one seen ts t = by (is_one_of t seen)
  where
    assoc : (us vs ws : List Term) → (us ++ vs) ++ ws ≡ us ++ (vs ++ ws)
    assoc [] vs ws = refl
    assoc (u ∷ us) vs ws = ap (λ z. u ∷ z) (assoc us vs ws)

    last : (us : List Term) → Alike (t ∷ us) (us ++ t ∷ [])
    last us = λ u. ap (λ z. same_term t u || is_one_of u z) (sym (no_more us)) ∙ sym (moved us [] t u)

    by : (a : Bool) → seen ++ (if a then once seen ts else t ∷ once (t ∷ seen) ts) ≡ (if a then seen ++ once seen ts else (seen ++ t ∷ []) ++ once (seen ++ t ∷ []) ts)
    by true = refl
    by false = sym (assoc seen (t ∷ []) (once (seen ++ t ∷ []) ts) ∙ ap (λ z. seen ++ t ∷ z) (sym (once_alike (t ∷ seen) (seen ++ t ∷ []) ts (last seen))))

-- one after the other is the first time of each
gathered_one : (seen ts : List Term) (t : Term) (a b : Bool) → ground t ≡ a → is_one_of t seen ≡ b →
    ((us : List Term) → gathered us ts ≡ us ++ once us (filter ground ts)) → gathered (if a && not b then seen ++ t ∷ [] else seen) ts ≡ seen ++ once seen (if a then t ∷ filter ground ts else filter ground ts)
gathered_one seen ts t true true e f h = h seen ∙ sym (terms_one seen (filter ground ts) t ∙ ap (λ z. if z then seen ++ once seen (filter ground ts) else (seen ++ t ∷ []) ++ once (seen ++ t ∷ []) (filter ground ts)) f)
gathered_one seen ts t true false e f h = h (seen ++ t ∷ []) ∙ sym (terms_one seen (filter ground ts) t ∙ ap (λ z. if z then seen ++ once seen (filter ground ts) else (seen ++ t ∷ []) ++ once (seen ++ t ∷ []) (filter ground ts)) f)
gathered_one seen ts t false b e f h = h seen

pub gathered_is : (ts seen : List Term) → gathered seen ts ≡ seen ++ once seen (filter ground ts)
gathered_is [] seen = sym (no_more seen)
gathered_is (t ∷ ts) seen = gathered_one seen ts t (ground t) (is_one_of t seen) refl refl (gathered_is ts)

pub gathered_append : (ts us seen : List Term) → gathered seen (ts ++ us) ≡ gathered (gathered seen ts) us
gathered_append [] us seen = refl
gathered_append (t ∷ ts) us seen = gathered_append ts us (with_one seen t)

-- a step of a loop
pub gathered_more : {X : Type 0} (f : X → List Term) (xs : List X) (i : ℕ) (x : X) (seen : List Term) → i < length xs → x ≡ get_or xs i x →
    gathered seen (flat_map f (take (i + 1) xs)) ≡ gathered (gathered seen (flat_map f (take i xs))) (f x)
gathered_more f xs i x seen l e = ap (gathered seen) (flat_more f xs i x l e) ∙ gathered_append (flat_map f (take i xs)) (f x) seen

-- the terms of a branch with one sentence more
pub terms_of_one : (b : List Signed) (l : Signed) → gathered (terms_on b) (all_terms_in l.sentence) ≡ terms_on (b ++ l ∷ [])
terms_of_one b l =
    gathered_is (all_terms_in l.sentence) (terms_on b)
    ∙ ap (λ z. terms_on b ++ once (terms_on b) z) (sym (no_more (terms_in l.sentence)))
    ∙ sym (terms_more b (l ∷ []))

pub parts_app : (g : Word) (ts : List Term) → parts_of_term (App g ts) ≡ App g ts ∷ flat_map parts_of_term ts
parts_app g ts = ap parts_of_term (rolls_app g ts) ∙ parts_is (t.App g ts) ∙ ap (λ z. z ∷ flat_map parts_of_term ts) (sym (rolls_app g ts))

pub parts_var : (x : Word) → parts_of_term (Var x) ≡ Var x ∷ []
parts_var x = ap parts_of_term (rolls_var x) ∙ parts_is (t.Var x) ∙ ap (λ z. z ∷ []) (sym (rolls_var x))

pub parts_name : (n : Word) → parts_of_term (Name n) ≡ Name n ∷ []
parts_name n = ap parts_of_term (rolls_name n) ∙ parts_is (t.Name n) ∙ ap (λ z. z ∷ []) (sym (rolls_name n))

-- the same at the steps of the code

pub gathered_app : (old mid new : List Term) (u : Term) (g : Word) (args ts : List Term) → u ≡ App g args → ts ≡ args → mid ≡ with_one old u → new ≡ gathered mid (flat_map parts_of_term ts) → new ≡ gathered old (parts_of_term u)
gathered_app old mid new u g args ts e f m n =
    n ∙ ap₂ (λ (x : List Term) (y : List Term). gathered x (flat_map parts_of_term y)) m f
    ∙ ap (gathered old) (ap (λ z. z ∷ flat_map parts_of_term args) e ∙ sym (parts_app g args) ∙ ap parts_of_term (sym e))

pub two_gathered : (old mid new us vs : List Term) → mid ≡ gathered old us → new ≡ gathered mid vs → new ≡ gathered old (us ++ vs)
two_gathered old mid new us vs m n = n ∙ ap (λ z. gathered z vs) m ∙ sym (gathered_append us vs old)

pub next_gathered : {X : Type 0} (f : X → List Term) (xs : List X) (i : ℕ) (x : X) (old mid new : List Term) → i < length xs → x ≡ get_or xs i x → mid ≡ gathered old (flat_map f (take i xs)) → new ≡ gathered mid (f x) →
    new ≡ gathered old (flat_map f (take (i + 1) xs))
next_gathered f xs i x old mid new l e m n = n ∙ ap (λ z. gathered z (f x)) m ∙ sym (gathered_more f xs i x old l e)

-- the terms of each form

pub terms_atom : (p : Word) (ts : List Term) → all_terms_in (v.Atom p ts) ≡ flat_map parts_of_term ts
terms_atom p ts = search (rules, the_lemmas)

pub terms_eq : (a b : Term) → all_terms_in (v.Eq a b) ≡ parts_of_term a ++ parts_of_term b
terms_eq a b = search (rules, the_lemmas)

pub terms_not : (p : Sent) → all_terms_in (v.Not p) ≡ all_terms_in p
terms_not p = search (rules, the_lemmas)

pub terms_if : (p q : Sent) → all_terms_in (v.If p q) ≡ all_terms_in p ++ all_terms_in q
terms_if p q = search (rules, the_lemmas)

pub terms_iff : (p q : Sent) → all_terms_in (v.Iff p q) ≡ all_terms_in p ++ all_terms_in q
terms_iff p q = search (rules, the_lemmas)

pub terms_all : (y : Word) (p : Sent) → all_terms_in (v.All y p) ≡ all_terms_in p
terms_all y p = search (rules, the_lemmas)

pub terms_ex : (y : Word) (p : Sent) → all_terms_in (v.Ex y p) ≡ all_terms_in p
terms_ex y p = search (rules, the_lemmas)

joined_is : (ps : List Sent) → joined_terms (map all_terms_in ps) ≡ flat_map all_terms_in ps
joined_is [] = refl
joined_is (p ∷ ps) = ap (λ z. all_terms_in p ++ z) (joined_is ps)

pub terms_and : (ps : List Sent) → all_terms_in (v.And ps) ≡ flat_map all_terms_in ps
terms_and ps = let e : all_terms_in (v.And ps) ≡ joined_terms (map all_terms_in ps) = search (rules, the_lemmas) in e ∙ joined_is ps

pub terms_or : (ps : List Sent) → all_terms_in (v.Or ps) ≡ flat_map all_terms_in ps
terms_or ps = let e : all_terms_in (v.Or ps) ≡ joined_terms (map all_terms_in ps) = search (rules, the_lemmas) in e ∙ joined_is ps

pub terms_of_if : (s p q a b : Sent) → s ≡ v.If p q → a ≡ p → b ≡ q → all_terms_in a ++ all_terms_in b ≡ all_terms_in s
terms_of_if s p q a b e f g = ap₂ (λ (x : Sent) (y : Sent). all_terms_in x ++ all_terms_in y) f g ∙ sym (ap all_terms_in e ∙ terms_if p q)

pub terms_of_iff : (s p q a b : Sent) → s ≡ v.Iff p q → a ≡ p → b ≡ q → all_terms_in a ++ all_terms_in b ≡ all_terms_in s
terms_of_iff s p q a b e f g = ap₂ (λ (x : Sent) (y : Sent). all_terms_in x ++ all_terms_in y) f g ∙ sym (ap all_terms_in e ∙ terms_iff p q)
