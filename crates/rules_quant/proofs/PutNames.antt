-- A term put into a sentence in which closed terms have been put in is put in with them.
use Rattle.std.proofs.Common.{◌≡◌, List, [], ◌∷◌, map, refl, ap, ap₂, sym, ◌∙◌, subst, Bool, true, false, IsTrue, rules}
use Rattle.std.specs.Prelude.{◌&&◌, not, cond, Option, Some, None, IfSome}
use Rattle.std.specs.Str.{bytes_eq}
use Rattle.std.proofs.Math.Bool.{and-true, and-false}
use Rattle.fol_core.specs.declared.sent.Term.{Term, roll-Term}
use Rattle.fol_core.specs.declared.sent.Term.{the_lemmas as term_lemmas}
use Rattle.fol_core.specs.declared.sent.Term.TheVariants.{Var, Name, App}
use Rattle.fol_core.specs.declared.sent.Term.TheOpen.{Term-F}
use Rattle.fol_core.specs.declared.sent.Term.TheOpen as t
use Rattle.fol_core.specs.declared.sent.Term.TheFolds.{ind-Term, fold-roll-Term, map-Term}
use Rattle.fol_core.specs.declared.sent.Sent.{Sent, roll-Sent}
use Rattle.fol_core.specs.declared.sent.Sent.TheOpen.{Sent-F}
use Rattle.fol_core.specs.declared.sent.Sent.TheOpen as f
use Rattle.fol_core.specs.declared.sent.Sent.TheVariants as s
use Rattle.fol_core.specs.declared.sent.Sent.TheFolds.{ind-Sent, fold-roll-Sent, map-Sent}
use Rattle.fol_core.specs.Word.{Word}
use Rattle.fol_core.specs.Statements.{ground}
use Rattle.fol_core.specs.Subst.{subst_term, subst_where, subst_closed_term}
use Rattle.fol_core.specs.Naming.{or_else}
use Rattle.fol_core.proofs.Equality.{bytes_same, word_same}
use Rattle.fol_core.proofs.Forms.{subst_and, subst_or}
use Rattle.fol_core.proofs.Terms.{put_app, put_name}
use Rattle.rules_quant.proofs.Grounds.{ground_closed}
use Rattle.fol_core.proofs.Substituting.{subst_in_closed, subst_atom, subst_eq, subst_bottom, subst_not, subst_if, subst_iff, subst_all, subst_ex}
use Rattle.rules_quant.specs.Naming.{Entry, term_for, or_itself, HaveGround, put_term_step, put_term, hiding, naming, put_step, put}

-- Each term stays closed below a quantifier, and beside one more closed term.
pub hidden_ground : (z : Word) (es : List Entry) → HaveGround es → HaveGround (hiding z es)
hidden_ground z es k y = go (bytes_eq z y)
  where
    go : (b : Bool) → IfSome (cond b None (term_for es y)) (λ r. IsTrue (ground r))
    go true = tt
    go false = k y

pub named_ground : (z : Word) (m : Term) (es : List Entry) → IsTrue (ground m) → HaveGround es → HaveGround (naming z m es)
named_ground z m es c k y = go (bytes_eq z y)
  where
    go : (b : Bool) → IfSome (cond b (Some m) (term_for es y)) (λ r. IsTrue (ground r))
    go true = c
    go false = k y

-- By fs a variable has the term that it has by es, and x, where it is free and has none, has n.
abbrev pub Adds : Word → Term → Bool → List Entry → List Entry → Type 0
Adds x n free es fs = (y : Word) → term_for fs y ≡ or_else (term_for es y) (cond (free && bytes_eq y x) (Some n) None)

abbrev PutsTogether : Word → Term → Sent → Type 0
PutsTogether x n p = (free : Bool) (es fs : List Entry) → HaveGround es → Adds x n free es fs → subst_where x n (put p es) free ≡ put p fs

abbrev Held : Word → Term → Type 0
Held x n = (p : Sent) × PutsTogether x n p

abbrev bare : (x : Word) (n : Term) → Sent-F (Held x n) → Sent-F Sent
bare x n = map-Sent (Held x n) Sent (λ e. e.0)

-- one term
abbrev PutsTerm : Word → Term → Bool → List Entry → List Entry → Term → Type 0
PutsTerm x n free es fs u = subst_term x n free (put_term es u) ≡ put_term fs u

abbrev HeldTerm : Word → Term → Bool → List Entry → List Entry → Type 0
HeldTerm x n free es fs = (u : Term) × PutsTerm x n free es fs u

abbrev bare_term : (x : Word) (n : Term) (free : Bool) (es fs : List Entry) → Term-F (HeldTerm x n free es fs) → Term-F Term
bare_term x n free es fs = map-Term (HeldTerm x n free es fs) Term (λ e. e.0)

args_together : (x : Word) (n : Term) (free : Bool) (es fs : List Entry) (hs : List (HeldTerm x n free es fs)) →
    map (subst_term x n free) (map (put_term es) (map (λ (e : HeldTerm x n free es fs). e.0) hs)) ≡ map (put_term fs) (map (λ (e : HeldTerm x n free es fs). e.0) hs)
args_together x n free es fs [] = refl
args_together x n free es fs (h ∷ hs) = ap₂ ◌∷◌ h.1 (args_together x n free es fs hs)

put_var : (x : Word) (n : Term) (free : Bool) (y : Word) → subst_term x n free (Var y) ≡ cond (free && bytes_eq y x) n (Var y)
put_var x n free y = search (rules, term_lemmas)

term_step : (x : Word) (n : Term) (free : Bool) (es fs : List Entry) → HaveGround es → Adds x n free es fs → (y : Term-F (HeldTerm x n free es fs)) →
    subst_term x n free (put_term_step es (map-Term Term Term (put_term es) (bare_term x n free es fs y))) ≡ put_term_step fs (map-Term Term Term (put_term fs) (bare_term x n free es fs y))
term_step x n free es fs k l (t.Name m) = put_name x n free m
term_step x n free es fs k l (t.App g hs) = put_app x n free g _ ∙ ap (App g) (args_together x n free es fs hs)
term_step x n free es fs k l (t.Var y) = go (term_for es y) (term_for fs y) (k y) (l y)
  where
    pick : (b : Bool) → cond b n (Var y) ≡ or_itself (cond b (Some n) None) y
    pick true = refl
    pick false = refl

    go : (o p : Option Term) → IfSome o (λ r. IsTrue (ground r)) → p ≡ or_else o (cond (free && bytes_eq y x) (Some n) None) → subst_term x n free (or_itself o y) ≡ or_itself p y
    go (Some m) p c e = subst_in_closed x n m free (ground_closed m c) ∙ ap (λ q. or_itself q y) (sym e)
    go None p c e = put_var x n free y ∙ pick (free && bytes_eq y x) ∙ ap (λ q. or_itself q y) (sym e)

term_together : (x : Word) (n : Term) (free : Bool) (es fs : List Entry) → HaveGround es → Adds x n free es fs → (u : Term) → PutsTerm x n free es fs u
term_together x n free es fs k a = ind-Term (PutsTerm x n free es fs) (λ l y is.
    subst (λ (w : Term-F Term). PutsTerm x n free es fs (roll-Term w)) is (
    ap (subst_term x n free) (fold-roll-Term Term (put_term_step es) (bare_term x n free es fs y))
    ∙ term_step x n free es fs k a y
    ∙ sym (fold-roll-Term Term (put_term_step fs) (bare_term x n free es fs y))))

terms_together : (x : Word) (n : Term) (free : Bool) (es fs : List Entry) → HaveGround es → Adds x n free es fs → (ts : List Term) → map (subst_term x n free) (map (put_term es) ts) ≡ map (put_term fs) ts
terms_together x n free es fs k l [] = refl
terms_together x n free es fs k l (t ∷ ts) = ap₂ ◌∷◌ (term_together x n free es fs k l t) (terms_together x n free es fs k l ts)

-- below a quantifier
flag_none : (x z y : Word) (free : Bool) → bytes_eq z y ≡ true → ((free && not (bytes_eq z x)) && bytes_eq y x) ≡ false
flag_none x z y free e = go (bytes_eq y x) refl
  where
    go : (b : Bool) → bytes_eq y x ≡ b → ((free && not (bytes_eq z x)) && b) ≡ false
    go false g = and-false (free && not (bytes_eq z x))
    go true g =
        let q : bytes_eq z x ≡ true = ap (λ w. bytes_eq w x) (word_same z y e) ∙ g in
        and-true (free && not (bytes_eq z x)) ∙ ap (λ c. free && not c) q ∙ and-false free

flag_same : (x z y : Word) (free : Bool) → bytes_eq z y ≡ false → ((free && not (bytes_eq z x)) && bytes_eq y x) ≡ (free && bytes_eq y x)
flag_same x z y free e = go (bytes_eq z x) refl (bytes_eq y x) refl
  where
    go : (a : Bool) → bytes_eq z x ≡ a → (b : Bool) → bytes_eq y x ≡ b → ((free && not a) && b) ≡ (free && b)
    go false g b h = ap (λ c. c && b) (and-true free)
    go true g false h = and-false (free && false) ∙ sym (and-false free)
    go true g true h =
        let q : bytes_eq z y ≡ true = ap (λ w. bytes_eq w y) (word_same z x g ∙ sym (word_same y x h)) ∙ bytes_same y in
        let r : true ≡ false = sym q ∙ e in cc

adds_under : (x : Word) (n : Term) (z : Word) (free : Bool) (es fs : List Entry) → Adds x n free es fs → Adds x n (free && not (bytes_eq z x)) (hiding z es) (hiding z fs)
adds_under x n z free es fs l y = go (bytes_eq z y) refl
  where
    go : (a : Bool) → bytes_eq z y ≡ a → cond a None (term_for fs y) ≡ or_else (cond a None (term_for es y)) (cond ((free && not (bytes_eq z x)) && bytes_eq y x) (Some n) None)
    go true e = ap (λ b. cond b (Some n) None) (sym (flag_none x z y free e))
    go false e = l y ∙ ap (λ b. or_else (term_for es y) (cond b (Some n) None)) (sym (flag_same x z y free e))

parts_together : (x : Word) (n : Term) (free : Bool) (es fs : List Entry) → HaveGround es → Adds x n free es fs → (hs : List (Held x n)) →
    map (λ q. subst_where x n q free) (map (λ (h : List Entry → Sent). h es) (map put (map (λ (e : Held x n). e.0) hs))) ≡ map (λ (h : List Entry → Sent). h fs) (map put (map (λ (e : Held x n). e.0) hs))
parts_together x n free es fs k l [] = refl
parts_together x n free es fs k l (h ∷ hs) = ap₂ ◌∷◌ (h.1 free es fs k l) (parts_together x n free es fs k l hs)

abbrev puts : (x : Word) (n : Term) → Sent-F (Held x n) → List Entry → Sent
puts x n y es = put_step (map-Sent Sent (List Entry → Sent) put (bare x n y)) es

step_together : (x : Word) (n : Term) (y : Sent-F (Held x n)) (free : Bool) (es fs : List Entry) → HaveGround es → Adds x n free es fs → subst_where x n (puts x n y es) free ≡ puts x n y fs
step_together x n (f.Atom p ts) free es fs k l = subst_atom x n p _ free ∙ ap (s.Atom p) (terms_together x n free es fs k l ts)
step_together x n (f.Eq a b) free es fs k l = subst_eq x n _ _ free ∙ ap₂ s.Eq (term_together x n free es fs k l a) (term_together x n free es fs k l b)
step_together x n f.Bottom free es fs k l = subst_bottom x n free
step_together x n (f.Not h) free es fs k l = subst_not x n _ free ∙ ap s.Not (h.1 free es fs k l)
step_together x n (f.And hs) free es fs k l = subst_and x n _ free ∙ ap s.And (parts_together x n free es fs k l hs)
step_together x n (f.Or hs) free es fs k l = subst_or x n _ free ∙ ap s.Or (parts_together x n free es fs k l hs)
step_together x n (f.If g h) free es fs k l = subst_if x n _ _ free ∙ ap₂ s.If (g.1 free es fs k l) (h.1 free es fs k l)
step_together x n (f.Iff g h) free es fs k l = subst_iff x n _ _ free ∙ ap₂ s.Iff (g.1 free es fs k l) (h.1 free es fs k l)
step_together x n (f.All z h) free es fs k l = subst_all x n z _ free ∙ ap (s.All z) (h.1 (free && not (bytes_eq z x)) (hiding z es) (hiding z fs) (hidden_ground z es k) (adds_under x n z free es fs l))
step_together x n (f.Ex z h) free es fs k l = subst_ex x n z _ free ∙ ap (s.Ex z) (h.1 (free && not (bytes_eq z x)) (hiding z es) (hiding z fs) (hidden_ground z es k) (adds_under x n z free es fs l))

pub together : (x : Word) (n : Term) (p : Sent) → PutsTogether x n p
together x n = ind-Sent (PutsTogether x n) (λ l y is.
    subst (λ (m : Sent-F Sent). PutsTogether x n (roll-Sent m)) is (λ free es fs k a.
    let as_puts : (gs : List Entry) → put (roll-Sent (bare x n y)) gs ≡ puts x n y gs = λ gs. ap (λ (g : List Entry → Sent). g gs) (fold-roll-Sent (List Entry → Sent) put_step (bare x n y)) in
    ap (λ q. subst_where x n q free) (as_puts es) ∙ step_together x n y free es fs k a ∙ sym (as_puts fs)))

-- the same terms give the same sentence
or_none : (o : Option Term) → or_else o None ≡ o
or_none None = refl
or_none (Some w) = refl

pub put_same : (p : Sent) (es fs : List Entry) → HaveGround es → ((y : Word) → term_for fs y ≡ term_for es y) → put p es ≡ put p fs
put_same p es fs k h =
    sym (together [] (Name []) p false es es k (λ y. sym (or_none (term_for es y))))
    ∙ together [] (Name []) p false es fs k (λ y. h y ∙ sym (or_none (term_for es y)))

-- By fs the variable x has the term l, and each other variable has the term that it has by es.
pub record Renames (x : Word) (l : Term) (es fs : List Entry) : Type 0 where
  pub here : term_for fs x ≡ Some l
  pub elsewhere : (y : Word) → bytes_eq y x ≡ false → term_for fs y ≡ term_for es y

pub differ : (x y : Word) → bytes_eq x y ≡ false → bytes_eq y x ≡ false
differ x y e = go (bytes_eq y x) refl
  where
    go : (b : Bool) → bytes_eq y x ≡ b → b ≡ false
    go false g = refl
    go true g = let q : true ≡ false = sym (bytes_same x) ∙ ap (bytes_eq x) (sym (word_same y x g)) ∙ e in cc

adds_renamed : (x : Word) (l : Term) (es fs : List Entry) → Renames x l es fs → Adds x l true (hiding x es) fs
adds_renamed x l es fs r y = go (bytes_eq x y) refl
  where
    go : (a : Bool) → bytes_eq x y ≡ a → term_for fs y ≡ or_else (cond a None (term_for es y)) (cond (bytes_eq y x) (Some l) None)
    go true e =
        let q : x ≡ y = word_same x y e in
        ap (term_for fs) (sym q) ∙ r.here ∙ sym (ap (λ b. cond b (Some l) None) (ap (λ w. bytes_eq w x) (sym q) ∙ bytes_same x))
    go false e = r.elsewhere y (differ x y e) ∙ sym (or_none (term_for es y)) ∙ sym (ap (λ b. or_else (term_for es y) (cond b (Some l) None)) (differ x y e))

-- the sentence with l for x beside the other terms
pub put_renamed : (x : Word) (l : Term) (p : Sent) (es fs : List Entry) → HaveGround es → Renames x l es fs → put p fs ≡ subst_closed_term x l (put p (hiding x es))
put_renamed x l p es fs k r = sym (together x l p true (hiding x es) fs (hidden_ground x es k) (adds_renamed x l es fs r))

-- a term for x renames it
pub named : (x : Word) (l : Term) (es : List Entry) → term_for (naming x l es) x ≡ Some l
named x l es = ap (λ b. cond b (Some l) (term_for es x)) (bytes_same x)

pub renamed : (x : Word) (l m : Term) (es : List Entry) → Renames x l (naming x m es) (naming x l es)
renamed x l m es = record {
  here = named x l es;
  elsewhere = λ y h. let e : bytes_eq x y ≡ false = differ y x h in ap (λ b. cond b (Some l) (term_for es y)) e ∙ sym (ap (λ b. cond b (Some m) (term_for es y)) e);
}

pub newly_named : (x : Word) (l : Term) (es : List Entry) → Renames x l es (naming x l es)
newly_named x l es = record { here = named x l es; elsewhere = λ y h. ap (λ b. cond b (Some l) (term_for es y)) (differ y x h) }
