-- An instance by a ground term of a quantified sentence that is a statement is a statement.
use Rattle.std.proofs.Common.{◌≡◌, ℕ, length, List, [], ◌∷◌, map, refl, ap, ap₂, sym, ◌∙◌, subst, Bool, true, false, IsTrue, inl, inr, true≢false}
use Rattle.std.proofs.lemmas.Bool.{and_parts}
use Rattle.std.proofs.Math.Bool.{and-true}
use Rattle.std.specs.Prelude.{◌&&◌, ◌||◌, not, ◌⊎◌, cond, nat_le}
use Rattle.std.proofs.lemmas.List.{length-map}
use Rattle.std.specs.List.{list_all}
use Rattle.std.specs.Str.{bytes_eq}
use Rattle.fol_core.specs.declared.sent.Term.{Term, roll-Term}
use Rattle.fol_core.specs.declared.sent.Term.TheVariants.{Var, Name, App}
use Rattle.fol_core.specs.declared.sent.Term.TheOpen.{Term-F}
use Rattle.fol_core.specs.declared.sent.Term.TheOpen as t
use Rattle.fol_core.specs.declared.sent.Term.TheFolds.{ind-Term, fold-roll-Term, map-Term}
use Rattle.fol_core.specs.declared.sent.Sent.{Sent, roll-Sent}
use Rattle.fol_core.specs.declared.sent.Sent.TheOpen.{Sent-F}
use Rattle.fol_core.specs.declared.sent.Sent.TheOpen as f
use Rattle.fol_core.specs.declared.sent.Sent.TheVariants.{All, Ex}
use Rattle.fol_core.specs.declared.sent.Sent.TheFolds.{ind-Sent, fold-roll-Sent, map-Sent}
use Rattle.fol_core.specs.Word.{Word, is_ident}
use Rattle.fol_core.specs.Closed.{is_among}
use Rattle.fol_core.specs.Statements.{grounded, grounded_step, ground, stated_under, stated_step, statement}
use Rattle.fol_core.specs.Subst.{itself, subst_term, subst_term_step, subst_where, subst_step, subst_name, subst_closed_term}
use Rattle.fol_core.proofs.Equality.{bytes_same, word_same}
use Rattle.fol_core.proofs.Terms.{grounded_app, grounded_var, grounded_name}
use Rattle.fol_core.proofs.Parts.{all_itself}
use Rattle.fol_core.proofs.Stating.{stated_atom, stated_eq, stated_bottom, stated_not, stated_each_and, stated_each_or, stated_if, stated_iff, stated_all, stated_ex}

-- Each variable that is bound in B, other than x where it is still free, is bound in C.
abbrev Covers : Word → Bool → List Word → List Word → Type 0
Covers x free B C = (y : Word) → is_among y B ≡ true → ((free && bytes_eq y x) ≡ true) ⊎ (is_among y C ≡ true)

abbrev Keeps : Word → Term → Sent → Type 0
Keeps x n p = (free : Bool) (B C : List Word) → Covers x free B C → stated_under p B ≡ true → stated_under (subst_where x n p free) C ≡ true

abbrev Held : Word → Term → Type 0
Held x n = (p : Sent) × Keeps x n p

both : (a b : Bool) → a ≡ true → b ≡ true → (a && b) ≡ true
both a b e g = ap₂ ◌&&◌ e g

-- A list is as long whatever is made of its items.
as_many : {X Y Z : Type 0} (k : ℕ) (f : X → Y) (g : X → Z) (xs : List X) → nat_le k (length (map f xs)) ≡ true → nat_le k (length (map g xs)) ≡ true
as_many k f g xs h = ap (nat_le k) (length-map xs g ∙ sym (length-map xs f)) ∙ h

-- A term that is grounded under some variables is grounded under more.
abbrev Within : List Word → List Word → Type 0
Within B C = (y : Word) → is_among y B ≡ true → is_among y C ≡ true

abbrev Grows : List Word → List Word → Term → Type 0
Grows B C u = grounded B u ≡ true → grounded C u ≡ true

abbrev Grown : List Word → List Word → Type 0
Grown B C = (u : Term) × Grows B C u

abbrev ungrown : (B C : List Word) → Term-F (Grown B C) → Term-F Term
ungrown B C = map-Term (Grown B C) Term (λ e. e.0)

args_grow : (B C : List Word) (es : List (Grown B C)) → list_all itself (map (grounded B) (map (λ (e : Grown B C). e.0) es)) ≡ true → list_all itself (map (grounded C) (map (λ (e : Grown B C). e.0) es)) ≡ true
args_grow B C [] h = refl
args_grow B C (e ∷ es) h = let w = and_parts (grounded B e.0) (list_all itself (map (grounded B) (map (λ (d : Grown B C). d.0) es))) h in both _ _ (e.1 w.0) (args_grow B C es w.1)

step_grows : (B C : List Word) → Within B C → (y : Term-F (Grown B C)) → grounded_step B (map-Term Term Bool (grounded B) (ungrown B C y)) ≡ true → grounded_step C (map-Term Term Bool (grounded C) (ungrown B C y)) ≡ true
step_grows B C v (t.Var x) h = let w = and_parts (is_ident x) (is_among x B) h in both _ _ w.0 (v x w.1)
step_grows B C v (t.Name n) h = h
step_grows B C v (t.App g es) h =
    let w = and_parts (is_ident g) _ h in
    let l = and_parts (nat_le 1 (length (map (grounded B) (map (λ (e : Grown B C). e.0) es)))) _ w.1 in
    both _ _ w.0 (both _ _ (as_many 1 (grounded B) (grounded C) (map (λ (e : Grown B C). e.0) es) l.0) (args_grow B C es l.1))

pub grows : (B C : List Word) → Within B C → (u : Term) → Grows B C u
grows B C v = ind-Term (Grows B C) (λ l y is.
    subst (λ (w : Term-F Term). Grows B C (roll-Term w)) is (λ h.
    fold-roll-Term Bool (grounded_step C) (ungrown B C y) ∙ step_grows B C v y (sym (fold-roll-Term Bool (grounded_step B) (ungrown B C y)) ∙ h)))

-- A ground term is grounded under any variables.
pub ground_everywhere : (n : Term) (C : List Word) → IsTrue (ground n) → grounded C n ≡ true
ground_everywhere n C k = grows [] C (λ y h. absurd (true≢false (sym h))) n k

-- A term with n for x is grounded where x, if it is still free, was bound too.
abbrev Puts : Word → Term → Bool → List Word → List Word → Term → Type 0
Puts x n free B C u = grounded B u ≡ true → grounded C (subst_term x n free u) ≡ true

abbrev Put : Word → Term → Bool → List Word → List Word → Type 0
Put x n free B C = (u : Term) × Puts x n free B C u

abbrev unput : (x : Word) (n : Term) (free : Bool) (B C : List Word) → Term-F (Put x n free B C) → Term-F Term
unput x n free B C = map-Term (Put x n free B C) Term (λ e. e.0)

args_put : (x : Word) (n : Term) (free : Bool) (B C : List Word) (es : List (Put x n free B C)) →
    list_all itself (map (grounded B) (map (λ (e : Put x n free B C). e.0) es)) ≡ true →
    list_all (grounded C) (map (subst_term x n free) (map (λ (e : Put x n free B C). e.0) es)) ≡ true
args_put x n free B C [] h = refl
args_put x n free B C (e ∷ es) h = let w = and_parts (grounded B e.0) (list_all itself (map (grounded B) (map (λ (d : Put x n free B C). d.0) es))) h in both _ _ (e.1 w.0) (args_put x n free B C es w.1)

step_puts : (x : Word) (n : Term) (free : Bool) (B C : List Word) → IsTrue (ground n) → Covers x free B C → (y : Term-F (Put x n free B C)) →
    grounded_step B (map-Term Term Bool (grounded B) (unput x n free B C y)) ≡ true →
    grounded C (subst_term_step x n free (map-Term Term Term (subst_term x n free) (unput x n free B C y))) ≡ true
step_puts x n free B C k v (t.Name m) e = grounded_name m C ∙ e
step_puts x n free B C k v (t.Var y) e = go (free && bytes_eq y x) (v y ((and_parts (is_ident y) _ e).1))
  where
    go : (b : Bool) → (b ≡ true) ⊎ (is_among y C ≡ true) → grounded C (cond b n (Var y)) ≡ true
    go true w = ground_everywhere n C k
    go false (inl w) = cc
    go false (inr w) = grounded_var y C ∙ both _ _ ((and_parts (is_ident y) _ e).0) w
step_puts x n free B C k v (t.App g es) e =
    let w = and_parts (is_ident g) _ e in
    let l = and_parts (nat_le 1 (length (map (grounded B) (map (λ (d : Put x n free B C). d.0) es)))) _ w.1 in
    grounded_app g _ C ∙ both _ _ w.0 (both _ _ (as_many 1 (grounded B) (subst_term x n free) (map (λ (d : Put x n free B C). d.0) es) l.0) (args_put x n free B C es l.1))

term_keeps : (x : Word) (n : Term) → IsTrue (ground n) → (u : Term) (free : Bool) (B C : List Word) → Covers x free B C → grounded B u ≡ true → grounded C (subst_term x n free u) ≡ true
term_keeps x n k u free B C v = ind-Term (Puts x n free B C) (λ l y is.
    subst (λ (w : Term-F Term). Puts x n free B C (roll-Term w)) is (λ h.
    ap (grounded C) (fold-roll-Term Term (subst_term_step x n free) (unput x n free B C y))
    ∙ step_puts x n free B C k v y (sym (fold-roll-Term Bool (grounded_step B) (unput x n free B C y)) ∙ h))) u

terms_keep : (x : Word) (n : Term) → IsTrue (ground n) → (ts : List Term) (free : Bool) (B C : List Word) → Covers x free B C → list_all (grounded B) ts ≡ true → list_all (grounded C) (map (subst_term x n free) ts) ≡ true
terms_keep x n k [] free B C v e = refl
terms_keep x n k (t ∷ ts) free B C v e = both _ _ (term_keeps x n k t free B C v ((and_parts (grounded B t) _ e).0)) (terms_keep x n k ts free B C v ((and_parts (grounded B t) _ e).1))

abbrev bare : (x : Word) (n : Term) → Sent-F (Held x n) → Sent-F Sent
bare x n = map-Sent (Held x n) Sent (λ e. e.0)

parts_keep : (x : Word) (n : Term) (es : List (Held x n)) (free : Bool) (B C : List Word) → Covers x free B C →
    list_all (λ (g : List Word → Bool). g B) (map stated_under (map (λ (e : Held x n). e.0) es)) ≡ true →
    list_all (λ (g : List Word → Bool). g C) (map stated_under (map (λ (g : Bool → Sent). g free) (map (subst_where x n) (map (λ (e : Held x n). e.0) es)))) ≡ true
parts_keep x n [] free B C v e = refl
parts_keep x n (h ∷ es) free B C v e = both _ _ (h.1 free B C v ((and_parts (stated_under h.0 B) _ e).0)) (parts_keep x n es free B C v ((and_parts (stated_under h.0 B) _ e).1))

-- the parts of a chain, of which there are as many as before
chain_keeps : (x : Word) (n : Term) (es : List (Held x n)) (free : Bool) (B C : List Word) → Covers x free B C →
    (nat_le 2 (length (map stated_under (map (λ (e : Held x n). e.0) es))) && list_all (λ (g : List Word → Bool). g B) (map stated_under (map (λ (e : Held x n). e.0) es))) ≡ true →
    (nat_le 2 (length (map stated_under (map (λ (g : Bool → Sent). g free) (map (subst_where x n) (map (λ (e : Held x n). e.0) es)))))
    && list_all (λ (g : List Word → Bool). g C) (map stated_under (map (λ (g : Bool → Sent). g free) (map (subst_where x n) (map (λ (e : Held x n). e.0) es))))) ≡ true
chain_keeps x n es free B C v e =
    let w = and_parts (nat_le 2 (length (map stated_under (map (λ (d : Held x n). d.0) es)))) _ e in
    both _ _
    (ap (nat_le 2) (length-map (map (λ (g : Bool → Sent). g free) (map (subst_where x n) (map (λ (d : Held x n). d.0) es))) stated_under
    ∙ length-map (map (subst_where x n) (map (λ (d : Held x n). d.0) es)) (λ (g : Bool → Sent). g free) ∙ length-map (map (λ (d : Held x n). d.0) es) (subst_where x n)
    ∙ sym (length-map (map (λ (d : Held x n). d.0) es) stated_under)) ∙ w.0)
    (parts_keep x n es free B C v w.1)

-- under a quantifier on z
under_at : (x z y : Word) (free : Bool) (C : List Word) (a b : Bool) → bytes_eq z y ≡ a → bytes_eq z x ≡ b → ((free && bytes_eq y x) ≡ true) ⊎ (is_among y C ≡ true) ⊎ (a ≡ true) →
    (((free && not b) && bytes_eq y x) ≡ true) ⊎ ((a || is_among y C) ≡ true)
under_at x z y free C true b e i w = inr refl
under_at x z y free C false b e i (inr (inl w)) = inr w
under_at x z y free C false b e i (inr (inr w)) = cc
under_at x z y free C false false e i (inl w) = inl (ap (λ c. c && bytes_eq y x) (and-true free) ∙ w)
under_at x z y free C false true e i (inl w) =
    let p : y ≡ x = word_same y x ((and_parts free (bytes_eq y x) w).1) in
    let q : z ≡ x = word_same z x i in
    let same : bytes_eq z y ≡ true = subst (λ u. bytes_eq z u ≡ true) (q ∙ sym p) (bytes_same z) in
    cc

split : (a b : Bool) → (a || b) ≡ true → (a ≡ true) ⊎ (b ≡ true)
split true b e = inl refl
split false b e = inr e

covered : (x z y : Word) (free : Bool) (B C : List Word) → Covers x free B C → (bytes_eq z y ≡ true) ⊎ (is_among y B ≡ true) →
    ((free && bytes_eq y x) ≡ true) ⊎ (is_among y C ≡ true) ⊎ (bytes_eq z y ≡ true)
covered x z y free B C v (inl e) = inr (inr e)
covered x z y free B C v (inr e) = go (v y e)
  where
    go : ((free && bytes_eq y x) ≡ true) ⊎ (is_among y C ≡ true) → ((free && bytes_eq y x) ≡ true) ⊎ (is_among y C ≡ true) ⊎ (bytes_eq z y ≡ true)
    go (inl w) = inl w
    go (inr w) = inr (inl w)

under : (x z : Word) (free : Bool) (B C : List Word) → Covers x free B C → Covers x (free && not (bytes_eq z x)) (z ∷ B) (z ∷ C)
under x z free B C v y e = under_at x z y free C (bytes_eq z y) (bytes_eq z x) refl refl (covered x z y free B C v (split (bytes_eq z y) (is_among y B) e))

-- The step is closed wherever its parts keep closed.
step_keeps : (x : Word) (n : Term) → IsTrue (ground n) → (y : Sent-F (Held x n)) (free : Bool) (B C : List Word) → Covers x free B C →
    stated_step (map-Sent Sent (List Word → Bool) stated_under (bare x n y)) B ≡ true →
    stated_under (subst_step x n (map-Sent Sent (Bool → Sent) (subst_where x n) (bare x n y)) free) C ≡ true
step_keeps x n k (f.Atom p ts) free B C v e = let w = and_parts (is_ident p) _ e in stated_atom p _ C ∙ both _ _ w.0 (terms_keep x n k ts free B C v w.1)
step_keeps x n k (f.Eq a b) free B C v e = stated_eq _ _ C ∙ both _ _ (term_keeps x n k a free B C v ((and_parts (grounded B a) _ e).0)) (term_keeps x n k b free B C v ((and_parts (grounded B a) _ e).1))
step_keeps x n k f.Bottom free B C v e = stated_bottom C
step_keeps x n k (f.Not h) free B C v e = stated_not _ C ∙ h.1 free B C v e
step_keeps x n k (f.And es) free B C v e = stated_each_and _ C ∙ chain_keeps x n es free B C v e
step_keeps x n k (f.Or es) free B C v e = stated_each_or _ C ∙ chain_keeps x n es free B C v e
step_keeps x n k (f.If g h) free B C v e = stated_if _ _ C ∙ both _ _ (g.1 free B C v ((and_parts (stated_under g.0 B) _ e).0)) (h.1 free B C v ((and_parts (stated_under g.0 B) _ e).1))
step_keeps x n k (f.Iff g h) free B C v e = stated_iff _ _ C ∙ both _ _ (g.1 free B C v ((and_parts (stated_under g.0 B) _ e).0)) (h.1 free B C v ((and_parts (stated_under g.0 B) _ e).1))
step_keeps x n k (f.All z h) free B C v e = let w = and_parts (is_ident z) _ e in stated_all z _ C ∙ both _ _ w.0 (h.1 (free && not (bytes_eq z x)) (z ∷ B) (z ∷ C) (under x z free B C v) w.1)
step_keeps x n k (f.Ex z h) free B C v e = let w = and_parts (is_ident z) _ e in stated_ex z _ C ∙ both _ _ w.0 (h.1 (free && not (bytes_eq z x)) (z ∷ B) (z ∷ C) (under x z free B C v) w.1)

pub keeps : (x : Word) (n : Term) → IsTrue (ground n) → (p : Sent) → Keeps x n p
keeps x n k = ind-Sent (Keeps x n) (λ l y is.
    subst (λ (m : Sent-F Sent). Keeps x n (roll-Sent m)) is (λ free B C v e.
    ap (λ (g : Bool → Sent). stated_under (g free) C) (fold-roll-Sent (Bool → Sent) (subst_step x n) (bare x n y))
    ∙ step_keeps x n k y free B C v (sym (ap (λ (g : List Word → Bool). g B) (fold-roll-Sent (List Word → Bool) stated_step (bare x n y))) ∙ e)))

-- The instance of a sentence in which x alone may be free.
instance_under : (x : Word) (n : Term) → IsTrue (ground n) → (p : Sent) → stated_under p (x ∷ []) ≡ true → stated_under (subst_closed_term x n p) [] ≡ true
instance_under x n k p e = keeps x n k p true (x ∷ []) [] (λ y h. go y (bytes_eq x y) refl h) e
  where
    go : (y : Word) (b : Bool) → bytes_eq x y ≡ b → (b || false) ≡ true → ((true && bytes_eq y x) ≡ true) ⊎ (false ≡ true)
    go y true i h = inl (subst (λ u. bytes_eq u x ≡ true) (word_same x y i) (bytes_same x))
    go y false i h = cc

-- Each instance by a ground term of a universal statement is a statement, and so is each of an existential one.
pub all_instance : (x : Word) (n : Term) (p : Sent) → IsTrue (ground n) → IsTrue (statement (All x p)) → IsTrue (statement (subst_closed_term x n p))
all_instance x n p k h = instance_under x n k p ((and_parts (is_ident x) _ (sym (stated_all x p []) ∙ h)).1)

pub ex_instance : (x : Word) (n : Term) (p : Sent) → IsTrue (ground n) → IsTrue (statement (Ex x p)) → IsTrue (statement (subst_closed_term x n p))
ex_instance x n p k h = instance_under x n k p ((and_parts (is_ident x) _ (sym (stated_ex x p []) ∙ h)).1)

-- A name is a ground term, where it is an identifier.
pub name_ground : (n : Word) → IsTrue (is_ident n) → IsTrue (ground (Name n))
name_ground n i = grounded_name n [] ∙ i

-- So it is of instances by names.
pub all_instance_by_name : (x n : Word) (p : Sent) → IsTrue (is_ident n) → IsTrue (statement (All x p)) → IsTrue (statement (subst_name x n p))
all_instance_by_name x n p i h = all_instance x (Name n) p (name_ground n i) h

pub ex_instance_by_name : (x n : Word) (p : Sent) → IsTrue (is_ident n) → IsTrue (statement (Ex x p)) → IsTrue (statement (subst_name x n p))
ex_instance_by_name x n p i h = ex_instance x (Name n) p (name_ground n i) h
