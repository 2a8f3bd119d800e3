-- The terms that stand in a term, in a sentence and on a branch: which names are among them, and that they are ground.
use Rattle.std.proofs.Common.{◌≡◌, List, [], ◌∷◌, ◌++◌, map, filter, refl, ap, ap₂, sym, ◌∙◌, subst, Bool, true, false, ◌||◌, IsTrue, true≢false, rules}
use Rattle.std.specs.Prelude.{if◌then◌else◌}
use Rattle.std.specs.Str.{bytes_eq}
use Rattle.std.specs.List.{list_any, flat_map, AllByRecursion}
use Rattle.fol_core.specs.Word.{Word, is_ident}
use Rattle.fol_core.specs.declared.sent.Term.{Term, roll-Term}
use Rattle.fol_core.specs.declared.sent.Term.TheVariants.{Var, Name, App}
use Rattle.fol_core.specs.declared.sent.Term.TheOpen.{Term-F}
use Rattle.fol_core.specs.declared.sent.Term.TheOpen as t
use Rattle.fol_core.specs.declared.sent.Term.TheFolds.{fold-Term, ind-Term, map-Term, fold-roll-Term}
use Rattle.fol_core.specs.declared.sent.Sent.{Sent, roll-Sent}
use Rattle.fol_core.specs.declared.sent.Sent.TheOpen.{Sent-F}
use Rattle.fol_core.specs.declared.sent.Sent.TheOpen as f
use Rattle.fol_core.specs.declared.sent.Sent.TheFolds.{ind-Sent, fold-roll-Sent, map-Sent}
use Rattle.fol_core.specs.Subst.{itself, occurs, occurs_step, occurs_in_term, in_term_step}
use Rattle.fol_core.specs.Statements.{ground}
use Rattle.fol_core.specs.Alike.{same_term}
use Rattle.fol_core.proofs.TermEquality.{rolls_var, rolls_name, rolls_app, same_only}
use Rattle.fol_core.proofs.Instances.{name_ground}
use Rattle.fol_core.proofs.Occurring.{occurs_not}
use Rattle.deriv_laws.specs.Eigen.{AreWithout}
use Rattle.tableau_laws.specs.Terms.{Listing, unlisted, listed_inside, listing_step, parts_of_term}
use Rattle.tableau_laws.specs.declared.literal.Literal.{Literal as Signed}
use Rattle.tableau_laws.specs.Branch.{said, said_as, joined_terms, terms_step, all_terms_in, terms_in, is_one_of, once, terms_on}

-- the terms in a term

abbrev listing : Term → Listing
listing = fold-Term Listing listing_step

abbrev IsKept : Term → Type 0
IsKept a = (listing a).0 ≡ a

abbrev Kept : Type 0
Kept = (a : Term) × IsKept a

args_kept : (es : List Kept) → map (λ (w : Listing). w.0) (map listing (map (λ (w : Kept). w.0) es)) ≡ map (λ (w : Kept). w.0) es
args_kept [] = refl
args_kept (w ∷ ws) = ap₂ ◌∷◌ w.1 (args_kept ws)

step_kept : (y : Term-F Kept) → unlisted (map-Term Term Listing listing (map-Term Kept Term (λ w. w.0) y)) ≡ roll-Term (map-Term Kept Term (λ w. w.0) y)
step_kept (t.Var x) = rolls_var x
step_kept (t.Name k) = rolls_name k
step_kept (t.App g es) = ap (App g) (args_kept es) ∙ rolls_app g _

kept_is : (a : Term) → IsKept a
kept_is = ind-Term IsKept (λ k y is.
    subst (λ (w : Term-F Term). IsKept (roll-Term w)) is
    (ap (λ (w : Listing). w.0) (fold-roll-Term Listing listing_step (map-Term Kept Term (λ w. w.0) y)) ∙ step_kept y))

all_kept : (us : List Term) → map (λ (w : Listing). w.0) (map listing us) ≡ us
all_kept [] = refl
all_kept (u ∷ us) = ap₂ ◌∷◌ (kept_is u) (all_kept us)

layer_kept : (z : Term-F Term) → unlisted (map-Term Term Listing listing z) ≡ roll-Term z
layer_kept (t.Var x) = rolls_var x
layer_kept (t.Name k) = rolls_name k
layer_kept (t.App g us) = ap (App g) (all_kept us) ∙ rolls_app g us

abbrev inner_layer : Term-F Term → List Term
inner_layer (t.Var x) = []
inner_layer (t.Name n) = []
inner_layer (t.App g us) = flat_map parts_of_term us

all_inner : (us : List Term) → flat_map (λ (w : Listing). w.1) (map listing us) ≡ flat_map parts_of_term us
all_inner [] = refl
all_inner (u ∷ us) = ap (λ ws. parts_of_term u ++ ws) (all_inner us)

layer_inner : (z : Term-F Term) → listed_inside (map-Term Term Listing listing z) ≡ inner_layer z
layer_inner (t.Var x) = refl
layer_inner (t.Name k) = refl
layer_inner (t.App g us) = all_inner us

-- a term's parts are itself and those of its arguments
pub parts_is : (z : Term-F Term) → parts_of_term (roll-Term z) ≡ roll-Term z ∷ inner_layer z
parts_is z = ap (λ (w : Listing). w.1) (fold-roll-Term Listing listing_step z) ∙ ap₂ ◌∷◌ (layer_kept z) (layer_inner z)

-- which names occur

pub one_of_both : (u : Term) (xs ys : List Term) → is_one_of u (xs ++ ys) ≡ (is_one_of u xs || is_one_of u ys)
one_of_both u [] ys = refl
one_of_both u (x ∷ xs) ys = by (same_term x u) (one_of_both u xs ys)
  where
    by : (b : Bool) → is_one_of u (xs ++ ys) ≡ (is_one_of u xs || is_one_of u ys) → (b || is_one_of u (xs ++ ys)) ≡ ((b || is_one_of u xs) || is_one_of u ys)
    by true e = refl
    by false e = e

abbrev IsNamed : Word → Term → Type 0
IsNamed n a = occurs_in_term n a ≡ is_one_of (Name n) (parts_of_term a)

abbrev Named : Word → Type 0
Named n = (a : Term) × IsNamed n a

args_named : (n : Word) (es : List (Named n)) → list_any itself (map (occurs_in_term n) (map (λ (w : Named n). w.0) es)) ≡ is_one_of (Name n) (flat_map parts_of_term (map (λ (w : Named n). w.0) es))
args_named n [] = refl
args_named n (w ∷ ws) = ap₂ ◌||◌ w.1 (args_named n ws) ∙ sym (one_of_both (Name n) (parts_of_term w.0) _)

same_var : (x n : Word) → same_term (Var x) (Name n) ≡ false
same_var x n = search (rules, Rattle.fol_core.specs.declared.sent.Term.the_lemmas)

same_name : (m n : Word) → same_term (Name m) (Name n) ≡ bytes_eq m n
same_name m n = search (rules, Rattle.fol_core.specs.declared.sent.Term.the_lemmas)

same_app : (g n : Word) (us : List Term) → same_term (App g us) (Name n) ≡ false
same_app g n us = search (rules, Rattle.fol_core.specs.declared.sent.Term.the_lemmas)

or_none : (b : Bool) → (b || false) ≡ b
or_none true = refl
or_none false = refl

layer_named : (n : Word) (y : Term-F (Named n)) → in_term_step n (map-Term Term Bool (occurs_in_term n) (map-Term (Named n) Term (λ w. w.0) y)) ≡ is_one_of (Name n) (roll-Term (map-Term (Named n) Term (λ w. w.0) y) ∷ inner_layer (map-Term (Named n) Term (λ w. w.0) y))
layer_named n (t.Var x) = sym (or_none (same_term (roll-Term (t.Var x)) (Name n)) ∙ ap (λ w. same_term w (Name n)) (sym (rolls_var x)) ∙ same_var x n)
layer_named n (t.Name m) = sym (or_none (same_term (roll-Term (t.Name m)) (Name n)) ∙ ap (λ w. same_term w (Name n)) (sym (rolls_name m)) ∙ same_name m n)
layer_named n (t.App g es) =
    args_named n es
    ∙ ap (λ b. b || is_one_of (Name n) (flat_map parts_of_term (map (λ (w : Named n). w.0) es))) (sym (ap (λ w. same_term w (Name n)) (sym (rolls_app g (map (λ (w : Named n). w.0) es))) ∙ same_app g n (map (λ (w : Named n). w.0) es)))

term_named : (n : Word) (a : Term) → IsNamed n a
term_named n = ind-Term (IsNamed n) (λ k y is.
    subst (λ (w : Term-F Term). IsNamed n (roll-Term w)) is
    (fold-roll-Term Bool (in_term_step n) (map-Term (Named n) Term (λ w. w.0) y) ∙ layer_named n y ∙ ap (is_one_of (Name n)) (sym (parts_is (map-Term (Named n) Term (λ w. w.0) y)))))

terms_named : (n : Word) (us : List Term) → list_any (occurs_in_term n) us ≡ is_one_of (Name n) (flat_map parts_of_term us)
terms_named n [] = refl
terms_named n (u ∷ us) = ap₂ ◌||◌ (term_named n u) (terms_named n us) ∙ sym (one_of_both (Name n) (parts_of_term u) (flat_map parts_of_term us))

abbrev SentNamed : Word → Sent → Type 0
SentNamed n p = occurs n p ≡ is_one_of (Name n) (all_terms_in p)

abbrev HeldNamed : Word → Type 0
HeldNamed n = (p : Sent) × SentNamed n p

abbrev bare_sent : (n : Word) → Sent-F (HeldNamed n) → Sent-F Sent
bare_sent n = map-Sent (HeldNamed n) Sent (λ w. w.0)

parts_named : (n : Word) (es : List (HeldNamed n)) → list_any itself (map (occurs n) (map (λ (w : HeldNamed n). w.0) es)) ≡ is_one_of (Name n) (joined_terms (map all_terms_in (map (λ (w : HeldNamed n). w.0) es)))
parts_named n [] = refl
parts_named n (e ∷ es) = ap₂ ◌||◌ e.1 (parts_named n es) ∙ sym (one_of_both (Name n) (all_terms_in e.0) _)

step_named : (n : Word) (y : Sent-F (HeldNamed n)) → occurs_step n (map-Sent Sent Bool (occurs n) (bare_sent n y)) ≡ is_one_of (Name n) (terms_step (map-Sent Sent (List Term) all_terms_in (bare_sent n y)))
step_named n (f.Atom p ts) = terms_named n ts
step_named n (f.Eq a b) = ap₂ ◌||◌ (term_named n a) (term_named n b) ∙ sym (one_of_both (Name n) (parts_of_term a) (parts_of_term b))
step_named n f.Bottom = refl
step_named n (f.Not e) = e.1
step_named n (f.And es) = parts_named n es
step_named n (f.Or es) = parts_named n es
step_named n (f.If d e) = ap₂ ◌||◌ d.1 e.1 ∙ sym (one_of_both (Name n) (all_terms_in d.0) (all_terms_in e.0))
step_named n (f.Iff d e) = ap₂ ◌||◌ d.1 e.1 ∙ sym (one_of_both (Name n) (all_terms_in d.0) (all_terms_in e.0))
step_named n (f.All v e) = e.1
step_named n (f.Ex v e) = e.1

pub occurs_named : (n : Word) (p : Sent) → SentNamed n p
occurs_named n = ind-Sent (SentNamed n) (λ l y is.
    subst (λ (w : Sent-F Sent). SentNamed n (roll-Sent w)) is
    (fold-roll-Sent Bool (occurs_step n) (bare_sent n y) ∙ step_named n y ∙ ap (is_one_of (Name n)) (sym (fold-roll-Sent (List Term) terms_step (bare_sent n y)))))

-- each name among them is ground

or_false : (a b : Bool) → (a || b) ≡ false → (a ≡ false) × (b ≡ false)
or_false true b h = absurd (true≢false h)
or_false false b h = (refl, h)

both_false : (a b : Bool) → a ≡ false → b ≡ false → (a || b) ≡ false
both_false true b e k = absurd (true≢false e)
both_false false b e k = k

kept_at : (n : Word) → IsTrue (is_ident n) → (u : Term) (us : List Term) (b : Bool) → ground u ≡ b → (is_one_of (Name n) (filter ground us) ≡ false → is_one_of (Name n) us ≡ false) → is_one_of (Name n) (if b then u ∷ filter ground us else filter ground us) ≡ false → is_one_of (Name n) (u ∷ us) ≡ false
kept_at n i u us true e r h = let w = or_false (same_term u (Name n)) (is_one_of (Name n) (filter ground us)) h in both_false (same_term u (Name n)) (is_one_of (Name n) us) w.0 (r w.1)
kept_at n i u us false e r h = both_false (same_term u (Name n)) (is_one_of (Name n) us) (other (same_term u (Name n)) refl) (r h)
  where
    other : (b : Bool) → same_term u (Name n) ≡ b → b ≡ false
    other true s = absurd (true≢false (sym (name_ground n i) ∙ ap ground (sym (same_only u (Name n) s)) ∙ e))
    other false s = refl

kept_names : (n : Word) → IsTrue (is_ident n) → (us : List Term) → is_one_of (Name n) (filter ground us) ≡ false → is_one_of (Name n) us ≡ false
kept_names n i [] h = refl
kept_names n i (u ∷ us) h = kept_at n i u us (ground u) refl (kept_names n i us) h

seen_step : (n w : Term) (seen ws : List Term) → is_one_of n seen ≡ false →
    (is_one_of n (once seen ws) ≡ false → is_one_of n ws ≡ false) →
    (is_one_of n (w ∷ seen) ≡ false → is_one_of n (once (w ∷ seen) ws) ≡ false → is_one_of n ws ≡ false) →
    (a b : Bool) → is_one_of w seen ≡ a → same_term w n ≡ b → is_one_of n (if a then once seen ws else w ∷ once (w ∷ seen) ws) ≡ false → (same_term w n || is_one_of n ws) ≡ false
seen_step n w seen ws s f g true true ea eb h = absurd (true≢false (sym ea ∙ ap (λ z. is_one_of z seen) (same_only w n eb) ∙ s))
seen_step n w seen ws s f g true false ea eb h = both_false (same_term w n) (is_one_of n ws) eb (f h)
seen_step n w seen ws s f g false b ea eb h =
    let p = or_false (same_term w n) (is_one_of n (once (w ∷ seen) ws)) h in
    both_false (same_term w n) (is_one_of n ws) p.0 (g (both_false (same_term w n) (is_one_of n seen) p.0 s) p.1)

pub not_seen : (n : Term) (seen ws : List Term) → is_one_of n seen ≡ false → is_one_of n (once seen ws) ≡ false → is_one_of n ws ≡ false
not_seen n seen [] s h = refl
not_seen n seen (w ∷ ws) s h = seen_step n w seen ws s (not_seen n seen ws s) (not_seen n (w ∷ seen) ws) (is_one_of w seen) (same_term w n) refl refl h

said_names : (n : Word) → IsTrue (is_ident n) → (h : Bool) (s : Sent) → is_one_of (Name n) (terms_in s) ≡ false → occurs n (said_as h s) ≡ false
said_names n i true s e = occurs_named n s ∙ kept_names n i (all_terms_in s) e
said_names n i false s e = occurs_not n s ∙ occurs_named n s ∙ kept_names n i (all_terms_in s) e

branch_without : (n : Word) → IsTrue (is_ident n) → (b : List Signed) → is_one_of (Name n) (flat_map (λ l. terms_in l.sentence) b) ≡ false → AreWithout n (map said b)
branch_without n i [] h = tt
branch_without n i (l ∷ b) h =
    let p = or_false (is_one_of (Name n) (terms_in l.sentence)) (is_one_of (Name n) (flat_map (λ l. terms_in l.sentence) b)) (sym (one_of_both (Name n) (terms_in l.sentence) (flat_map (λ l. terms_in l.sentence) b)) ∙ h) in
    (said_names n i l.holds l.sentence p.0, branch_without n i b p.1)

pub without_names : (n : Word) → IsTrue (is_ident n) → (b : List Signed) → is_one_of (Name n) (terms_on b) ≡ false → AreWithout n (map said b)
without_names n i b h = branch_without n i b (not_seen (Name n) [] (flat_map (λ l. terms_in l.sentence) b) refl h)

-- the terms on a branch are ground

abbrev AllGround : List Term → Type 0
AllGround us = AllByRecursion (λ u. IsTrue (ground u)) us

filter_ground : (us : List Term) → AllGround (filter ground us)
filter_ground [] = tt
filter_ground (u ∷ us) = by (ground u) refl (filter_ground us)
  where
    by : (b : Bool) → ground u ≡ b → AllGround (filter ground us) → AllGround (if b then u ∷ filter ground us else filter ground us)
    by true e r = (e, r)
    by false e r = r

both_ground : (us ws : List Term) → AllGround us → AllGround ws → AllGround (us ++ ws)
both_ground [] ws h k = k
both_ground (u ∷ us) ws h k = (h.0, both_ground us ws h.1 k)

flat_ground : (b : List Signed) → AllGround (flat_map (λ l. terms_in l.sentence) b)
flat_ground [] = tt
flat_ground (l ∷ b) = both_ground (terms_in l.sentence) (flat_map (λ l. terms_in l.sentence) b) (filter_ground (all_terms_in l.sentence)) (flat_ground b)

once_at : (w : Term) (ws us : List Term) (b : Bool) → IsTrue (ground w) → AllGround ws → AllGround us → AllGround (if b then ws else w ∷ us)
once_at w ws us true h k m = k
once_at w ws us false h k m = (h, m)

once_ground : (seen us : List Term) → AllGround us → AllGround (once seen us)
once_ground seen [] h = tt
once_ground seen (u ∷ us) h = once_at u (once seen us) (once (u ∷ seen) us) (is_one_of u seen) h.0 (once_ground seen us h.1) (once_ground (u ∷ seen) us h.1)

pub terms_ground : (b : List Signed) → AllGround (terms_on b)
terms_ground b = once_ground [] (flat_map (λ l. terms_in l.sentence) b) (flat_ground b)
