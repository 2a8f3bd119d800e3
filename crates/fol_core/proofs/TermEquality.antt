-- Terms that are alike where a term is replaced by itself are equal, and each is alike to itself.
use Rattle.std.proofs.Common.{◌≡◌, ℕ, List, [], ◌∷◌, map, refl, ap, ap₂, sym, ◌∙◌, subst, Bool, true, false, rules, eq-eqb, inl, inr, ◌⊎◌, true≢false}
use Rattle.std.proofs.lemmas.Bool.{and_parts, eqb-true}
use Rattle.std.specs.Prelude.{◌&&◌, ◌||◌}
use Rattle.std.specs.Str.{bytes_eq}
use Rattle.fol_core.specs.declared.sent.Term.{Term, out-Term, roll-Term, roll-out-Term, the_lemmas}
use Rattle.fol_core.specs.declared.sent.Term.TheVariants.{Var, Name, App}
use Rattle.fol_core.specs.declared.sent.Term.TheOpen.{Term-F}
use Rattle.fol_core.specs.declared.sent.Term.TheOpen as t
use Rattle.fol_core.specs.declared.sent.Term.TheFolds.{fold-Term, ind-Term, fold-roll-Term, map-Term}
use Rattle.fol_core.specs.Word.{Word}
use Rattle.fol_core.specs.Alike.{form_step, same_term, Tested, untested, tests, repl_term_step, repl_term, inside_step, repl_inside, pairwise, all_pairs}

both : (a b : Bool) → a ≡ true → b ≡ true → (a && b) ≡ true
both a b e f = ap₂ ◌&&◌ e f

-- A word is the same as itself, byte by byte.
pub bytes_same : (xs : List ℕ) → bytes_eq xs xs ≡ true
bytes_same [] = refl
bytes_same (x ∷ xs) = both _ _ (eq-eqb x x refl) (bytes_same xs)

-- Words that are the same byte by byte are equal.
pub word_same : (xs ys : Word) → bytes_eq xs ys ≡ true → xs ≡ ys
word_same [] [] h = refl
word_same (x ∷ xs) (y ∷ ys) h = let w = and_parts _ _ h in ap₂ ◌∷◌ (eqb-true x y w.0) (word_same xs ys w.1)
word_same [] (y ∷ ys) h = absurd (true≢false (sym h))
word_same (x ∷ xs) [] h = absurd (true≢false (sym h))

out_roll : (m : Term-F Term) → out-Term (roll-Term m) ≡ m
out_roll m = search (rules, the_lemmas)

pub rolls_var : (x : Word) → Var x ≡ roll-Term (t.Var x)
rolls_var x = search (rules, the_lemmas)

pub rolls_name : (n : Word) → Name n ≡ roll-Term (t.Name n)
rolls_name n = search (rules, the_lemmas)

pub rolls_app : (g : Word) (ts : List Term) → App g ts ≡ roll-Term (t.App g ts)
rolls_app g ts = search (rules, the_lemmas)

-- Each term is the same as itself.
abbrev IsSame : Term → Type 0
IsSame a = same_term a a ≡ true

abbrev Held : Type 0
Held = (a : Term) × IsSame a

abbrev bare : Term-F Held → Term-F Term
bare = map-Term Held Term (λ e. e.0)

abbrev comparing : Term-F (Term → Bool) → Term → Bool
comparing g u = form_step g (out-Term u)

args_refl : (es : List Held) → pairwise (map same_term (map (λ (e : Held). e.0) es)) (map (λ (e : Held). e.0) es) ≡ true
args_refl [] = refl
args_refl (e ∷ es) = both _ _ e.1 (args_refl es)

step_refl : (y : Term-F Held) → form_step (map-Term Term (Term → Bool) same_term (bare y)) (bare y) ≡ true
step_refl (t.Var x) = bytes_same x
step_refl (t.Name n) = bytes_same n
step_refl (t.App g es) = both _ _ (bytes_same g) (args_refl es)

pub same_refl : (a : Term) → same_term a a ≡ true
same_refl = ind-Term IsSame (λ l y is.
    subst (λ (w : Term-F Term). IsSame (roll-Term w)) is
    (ap (λ (g : Term → Bool). g (roll-Term (bare y))) (fold-roll-Term (Term → Bool) comparing (bare y))
    ∙ ap (λ w. form_step (map-Term Term (Term → Bool) same_term (bare y)) w) (out_roll (bare y)) ∙ step_refl y))

-- No other term is the same.
abbrev IsOnly : Term → Type 0
IsOnly a = (u : Term) → same_term a u ≡ true → a ≡ u

abbrev Alone : Type 0
Alone = (a : Term) × IsOnly a

abbrev shown : Term-F Alone → Term-F Term
shown = map-Term Alone Term (λ e. e.0)

args_same : (es : List Alone) (us : List Term) → pairwise (map same_term (map (λ (e : Alone). e.0) es)) us ≡ true → map (λ (e : Alone). e.0) es ≡ us
args_same [] [] h = refl
args_same (e ∷ es) (u ∷ us) h = let w = and_parts (same_term e.0 u) (pairwise (map same_term (map (λ (d : Alone). d.0) es)) us) h in ap₂ ◌∷◌ (e.1 u w.0) (args_same es us w.1)
args_same [] (u ∷ us) h = absurd (true≢false (sym h))
args_same (e ∷ es) [] h = absurd (true≢false (sym h))

step_same : (y : Term-F Alone) (w : Term-F Term) → form_step (map-Term Term (Term → Bool) same_term (shown y)) w ≡ true → shown y ≡ w
step_same (t.Var x) (t.Var z) h = ap t.Var (word_same x z h)
step_same (t.Name n) (t.Name m) h = ap t.Name (word_same n m h)
step_same (t.App f es) (t.App g us) h = let w = and_parts (bytes_eq f g) (pairwise (map same_term (map (λ (e : Alone). e.0) es)) us) h in ap₂ t.App (word_same f g w.0) (args_same es us w.1)
step_same _ _ h = absurd (true≢false (sym h))

pub same_only : (a u : Term) → same_term a u ≡ true → a ≡ u
same_only = ind-Term IsOnly (λ l y is.
    subst (λ (w : Term-F Term). IsOnly (roll-Term w)) is (λ u h.
    ap roll-Term (step_same y (out-Term u) (sym (ap (λ (g : Term → Bool). g u) (fold-roll-Term (Term → Bool) comparing (shown y))) ∙ h))
    ∙ roll-out-Term u))

-- The fold that tests a term beside another keeps the term.
abbrev tested : Term → Term → Term → Tested
tested n m = fold-Term Tested (repl_term_step n m)

abbrev IsKept : Term → Term → Term → Type 0
IsKept n m a = (tested n m a).0 ≡ a

abbrev Kept : Term → Term → Type 0
Kept n m = (a : Term) × IsKept n m a

abbrev plain : (n m : Term) → Term-F (Kept n m) → Term-F Term
plain n m = map-Term (Kept n m) Term (λ e. e.0)

args_kept : (n m : Term) (es : List (Kept n m)) → map (λ (e : Tested). e.0) (map (tested n m) (map (λ (e : Kept n m). e.0) es)) ≡ map (λ (e : Kept n m). e.0) es
args_kept n m [] = refl
args_kept n m (e ∷ es) = ap₂ ◌∷◌ e.1 (args_kept n m es)

step_kept : (n m : Term) (y : Term-F (Kept n m)) → untested (map-Term Term Tested (tested n m) (plain n m y)) ≡ roll-Term (plain n m y)
step_kept n m (t.Var x) = rolls_var x
step_kept n m (t.Name k) = rolls_name k
step_kept n m (t.App g es) = ap (App g) (args_kept n m es) ∙ rolls_app g _

kept : (n m a : Term) → IsKept n m a
kept n m = ind-Term (IsKept n m) (λ l y is.
    subst (λ (w : Term-F Term). IsKept n m (roll-Term w)) is
    (ap (λ (e : Tested). e.0) (fold-roll-Term Tested (repl_term_step n m) (plain n m y)) ∙ step_kept n m y))

all_kept : (n m : Term) (us : List Term) → map (λ (e : Tested). e.0) (map (tested n m) us) ≡ us
all_kept n m [] = refl
all_kept n m (u ∷ us) = ap₂ ◌∷◌ (kept n m u) (all_kept n m us)

layer_kept : (n m : Term) (z : Term-F Term) → untested (map-Term Term Tested (tested n m) z) ≡ roll-Term z
layer_kept n m (t.Var x) = rolls_var x
layer_kept n m (t.Name k) = rolls_name k
layer_kept n m (t.App g us) = ap (App g) (all_kept n m us) ∙ rolls_app g us

args_tests : (n m : Term) (ts us : List Term) → pairwise (map (λ (e : Tested). e.1) (map (tested n m) ts)) us ≡ all_pairs (repl_term n m) ts us
args_tests n m [] [] = refl
args_tests n m [] (u ∷ us) = refl
args_tests n m (a ∷ ts) [] = refl
args_tests n m (a ∷ ts) (u ∷ us) = ap (λ b. repl_term n m a u && b) (args_tests n m ts us)

layer_tests : (n m : Term) (z w : Term-F Term) → form_step (tests (map-Term Term Tested (tested n m) z)) w ≡ inside_step n m z w
layer_tests n m (t.Var x) (t.Var y) = refl
layer_tests n m (t.Var x) (t.Name b) = refl
layer_tests n m (t.Var x) (t.App h us) = refl
layer_tests n m (t.Name a) (t.Var y) = refl
layer_tests n m (t.Name a) (t.Name b) = refl
layer_tests n m (t.Name a) (t.App h us) = refl
layer_tests n m (t.App g ts) (t.Var y) = refl
layer_tests n m (t.App g ts) (t.Name b) = refl
layer_tests n m (t.App g ts) (t.App h us) = ap (λ b. bytes_eq g h && b) (args_tests n m ts us)

at_layer : (n m : Term) (z : Term-F Term) (u : Term) → repl_term n m (roll-Term z) u ≡ ((same_term (roll-Term z) n && same_term u m) || inside_step n m z (out-Term u))
at_layer n m z u =
    ap (λ (e : Tested). e.1 u) (fold-roll-Term Tested (repl_term_step n m) z)
    ∙ ap₂ (λ (r : Term) (b : Bool). (same_term r n && same_term u m) || b) (layer_kept n m z) (layer_tests n m z (out-Term u))

-- Two terms are alike where they are the one and the other, or are so inside.
pub repl_term_is : (n m a u : Term) → repl_term n m a u ≡ ((same_term a n && same_term u m) || repl_inside n m a u)
repl_term_is n m a u = subst (λ (b : Term). repl_term n m b u ≡ ((same_term b n && same_term u m) || inside_step n m (out-Term a) (out-Term u))) (roll-out-Term a) (at_layer n m (out-Term a) u)

or_right : (a b : Bool) → b ≡ true → (a || b) ≡ true
or_right true b e = refl
or_right false b e = e

-- A term comes from itself by replacing nothing.
abbrev IsAlike : Term → Term → Term → Type 0
IsAlike n m a = repl_term n m a a ≡ true

abbrev Itself : Term → Term → Type 0
Itself n m = (a : Term) × IsAlike n m a

abbrev unheld : (n m : Term) → Term-F (Itself n m) → Term-F Term
unheld n m = map-Term (Itself n m) Term (λ e. e.0)

args_alike : (n m : Term) (es : List (Itself n m)) → all_pairs (repl_term n m) (map (λ (e : Itself n m). e.0) es) (map (λ (e : Itself n m). e.0) es) ≡ true
args_alike n m [] = refl
args_alike n m (e ∷ es) = both _ _ e.1 (args_alike n m es)

step_alike : (n m : Term) (y : Term-F (Itself n m)) → inside_step n m (unheld n m y) (unheld n m y) ≡ true
step_alike n m (t.Var x) = bytes_same x
step_alike n m (t.Name k) = bytes_same k
step_alike n m (t.App g es) = both _ _ (bytes_same g) (args_alike n m es)

pub repl_term_refl : (n m a : Term) → repl_term n m a a ≡ true
repl_term_refl n m = ind-Term (IsAlike n m) (λ l y is.
    subst (λ (w : Term-F Term). IsAlike n m (roll-Term w)) is
    (at_layer n m (unheld n m y) (roll-Term (unheld n m y))
    ∙ or_right (same_term (roll-Term (unheld n m y)) n && same_term (roll-Term (unheld n m y)) m) _
    (ap (λ w. inside_step n m (unheld n m y) w) (out_roll (unheld n m y)) ∙ step_alike n m y)))

or_cases : (a b : Bool) → (a || b) ≡ true → (a ≡ true) ⊎ (b ≡ true)
or_cases true b h = inl refl
or_cases false b h = inr h

-- Where a term is replaced by itself, nothing else is alike.
abbrev IsFixed : Term → Term → Type 0
IsFixed r a = (u : Term) → repl_term r r a u ≡ true → a ≡ u

abbrev Fixed : Term → Type 0
Fixed r = (a : Term) × IsFixed r a

abbrev opened : (r : Term) → Term-F (Fixed r) → Term-F Term
opened r = map-Term (Fixed r) Term (λ e. e.0)

args_fixed : (r : Term) (es : List (Fixed r)) (us : List Term) → all_pairs (repl_term r r) (map (λ (e : Fixed r). e.0) es) us ≡ true → map (λ (e : Fixed r). e.0) es ≡ us
args_fixed r [] [] h = refl
args_fixed r (e ∷ es) (u ∷ us) h = let w = and_parts (repl_term r r e.0 u) (all_pairs (repl_term r r) (map (λ (d : Fixed r). d.0) es) us) h in ap₂ ◌∷◌ (e.1 u w.0) (args_fixed r es us w.1)
args_fixed r [] (u ∷ us) h = absurd (true≢false (sym h))
args_fixed r (e ∷ es) [] h = absurd (true≢false (sym h))

step_fixed : (r : Term) (y : Term-F (Fixed r)) (w : Term-F Term) → inside_step r r (opened r y) w ≡ true → opened r y ≡ w
step_fixed r (t.Var x) (t.Var z) h = ap t.Var (word_same x z h)
step_fixed r (t.Name n) (t.Name m) h = ap t.Name (word_same n m h)
step_fixed r (t.App f es) (t.App g us) h = let w = and_parts (bytes_eq f g) (all_pairs (repl_term r r) (map (λ (e : Fixed r). e.0) es) us) h in ap₂ t.App (word_same f g w.0) (args_fixed r es us w.1)
step_fixed r _ _ h = absurd (true≢false (sym h))

pub repl_term_same : (r a u : Term) → repl_term r r a u ≡ true → a ≡ u
repl_term_same r = ind-Term (IsFixed r) (λ l y is.
    subst (λ (w : Term-F Term). IsFixed r (roll-Term w)) is (λ u h. go y u (or_cases _ _ (sym (at_layer r r (opened r y) u) ∙ h))))
  where
    go : (y : Term-F (Fixed r)) (u : Term) → ((same_term (roll-Term (opened r y)) r && same_term u r) ≡ true) ⊎ (inside_step r r (opened r y) (out-Term u) ≡ true) → roll-Term (opened r y) ≡ u
    go y u (inl e) = let w = and_parts (same_term (roll-Term (opened r y)) r) (same_term u r) e in same_only _ _ w.0 ∙ sym (same_only _ _ w.1)
    go y u (inr e) = ap roll-Term (step_fixed r y (out-Term u) e) ∙ roll-out-Term u

-- A test that holds exactly where two terms are one is the comparison of the two.
pub same_as : (b : Bool) (a n : Term) → (b ≡ true → a ≡ n) → (a ≡ n → b ≡ true) → b ≡ same_term a n
same_as b a n f g = go b (same_term a n) refl f g
  where
    go : (b c : Bool) → same_term a n ≡ c → (b ≡ true → a ≡ n) → (a ≡ n → b ≡ true) → b ≡ c
    go true true e f g = refl
    go false false e f g = refl
    go true false e f g = sym (subst (λ u. same_term a u ≡ true) (f refl) (same_refl a)) ∙ e
    go false true e f g = g (same_only a n e)
