-- The recursion equations of the letters and of the truth values.
use Rattle.std.proofs.Common.{◌≡◌, List, [], ◌∷◌, ◌++◌, map, refl, ap, ap₂, ◌∙◌, subst, Bool, false, rules}
use Rattle.std.specs.Prelude.{not, ◌&&◌, ◌||◌}
use Rattle.std.specs.List.{flat_map, list_any, list_all}
use Rattle.fol_core.specs.declared.sent.Term.{Term}
use Rattle.fol_core.specs.declared.sent.Sent.{Sent, roll-Sent, the_lemmas}
use Rattle.fol_core.specs.declared.sent.Sent.TheOpen.{Sent-F}
use Rattle.fol_core.specs.declared.sent.Sent.TheOpen as f
use Rattle.fol_core.specs.declared.sent.Sent.TheVariants as s
use Rattle.fol_core.specs.declared.sent.Sent.TheFolds.{ind-Sent, fold-roll-Sent, map-Sent}
use Rattle.fol_core.specs.Word.{Word}
use Rattle.taut_con.specs.Whole.{Seen, seen, seen_over}
use Rattle.taut_con.specs.Letters.{letter_occurrences, letters_step}
use Rattle.taut_con.specs.Values.{value, value_step, agree}

-- The sentence that is seen is the sentence.
abbrev IsItself : {A : Type 0} → (Sent-F (Seen A) → A) → Sent → Type 0
IsItself step p = (seen step p).itself ≡ p

abbrev Itself : {A : Type 0} → (Sent-F (Seen A) → A) → Type 0
Itself step = (p : Sent) × IsItself step p

abbrev bare : {A : Type 0} (step : Sent-F (Seen A) → A) → Sent-F (Itself step) → Sent-F Sent
bare step = map-Sent (Itself step) Sent (λ e. e.0)

parts_itself : {A : Type 0} (step : Sent-F (Seen A) → A) (es : List (Itself step)) →
    map (λ (x : Seen A). x.itself) (map (seen step) (map (λ (e : Itself step). e.0) es)) ≡ map (λ (e : Itself step). e.0) es
parts_itself step [] = refl
parts_itself step (e ∷ es) = ap₂ ◌∷◌ e.1 (parts_itself step es)

step_itself : {A : Type 0} (step : Sent-F (Seen A) → A) (y : Sent-F (Itself step)) →
    map-Sent (Seen A) Sent (λ (x : Seen A). x.itself) (map-Sent Sent (Seen A) (seen step) (bare step y)) ≡ bare step y
step_itself step (f.Atom p ts) = refl
step_itself step (f.Eq a b) = refl
step_itself step f.Bottom = refl
step_itself step (f.Not e) = ap f.Not e.1
step_itself step (f.And es) = ap f.And (parts_itself step es)
step_itself step (f.Or es) = ap f.Or (parts_itself step es)
step_itself step (f.If d e) = ap₂ f.If d.1 e.1
step_itself step (f.Iff d e) = ap₂ f.Iff d.1 e.1
step_itself step (f.All x e) = ap (λ (q : Sent). f.All x q) e.1
step_itself step (f.Ex x e) = ap (λ (q : Sent). f.Ex x q) e.1

pub itself_is : {A : Type 0} (step : Sent-F (Seen A) → A) (p : Sent) → IsItself step p
itself_is {A} step = ind-Sent (IsItself step) (λ l y is.
    subst (λ (w : Sent-F Sent). IsItself step (roll-Sent w)) is
    (ap (λ (x : Seen A). x.itself) (fold-roll-Sent (Seen A) (seen_over step) (bare step y)) ∙ ap roll-Sent (step_itself step y)))

parts_letters : (ps : List Sent) → flat_map (λ (x : Seen (List Sent)). x.made) (map (seen letters_step) ps) ≡ flat_map letter_occurrences ps
unfolding letter_occurrences
parts_letters [] = refl
parts_letters (p ∷ ps) = ap (λ ls. letter_occurrences p ++ ls) (parts_letters ps)

pub letters_atom : (p : Word) (ts : List Term) → letter_occurrences (s.Atom p ts) ≡ s.Atom p ts ∷ []
unfolding letter_occurrences
letters_atom p ts = search (rules, the_lemmas)

pub letters_eq : (a b : Term) → letter_occurrences (s.Eq a b) ≡ s.Eq a b ∷ []
unfolding letter_occurrences
letters_eq a b = search (rules, the_lemmas)

pub letters_bottom : letter_occurrences s.Bottom ≡ []
unfolding letter_occurrences
letters_bottom = search (rules, the_lemmas)

pub letters_not : (p : Sent) → letter_occurrences (s.Not p) ≡ letter_occurrences p
unfolding letter_occurrences
letters_not p = search (rules, the_lemmas)

pub letters_and : (ps : List Sent) → letter_occurrences (s.And ps) ≡ flat_map letter_occurrences ps
unfolding letter_occurrences
letters_and ps =
    let e : letter_occurrences (s.And ps) ≡ flat_map (λ (x : Seen (List Sent)). x.made) (map (seen letters_step) ps) = search (rules, the_lemmas) in
    e ∙ parts_letters ps

pub letters_or : (ps : List Sent) → letter_occurrences (s.Or ps) ≡ flat_map letter_occurrences ps
unfolding letter_occurrences
letters_or ps =
    let e : letter_occurrences (s.Or ps) ≡ flat_map (λ (x : Seen (List Sent)). x.made) (map (seen letters_step) ps) = search (rules, the_lemmas) in
    e ∙ parts_letters ps

pub letters_if : (p q : Sent) → letter_occurrences (s.If p q) ≡ letter_occurrences p ++ letter_occurrences q
unfolding letter_occurrences
letters_if p q = search (rules, the_lemmas)

pub letters_iff : (p q : Sent) → letter_occurrences (s.Iff p q) ≡ letter_occurrences p ++ letter_occurrences q
unfolding letter_occurrences
letters_iff p q = search (rules, the_lemmas)

pub letters_all : (x : Word) (p : Sent) → letter_occurrences (s.All x p) ≡ s.All x p ∷ []
unfolding letter_occurrences
letters_all x p =
    let e : letter_occurrences (s.All x p) ≡ s.All x (seen letters_step p).itself ∷ [] = search (rules, the_lemmas) in
    e ∙ ap (λ (q : Sent). s.All x q ∷ []) (itself_is letters_step p)

pub letters_ex : (x : Word) (p : Sent) → letter_occurrences (s.Ex x p) ≡ s.Ex x p ∷ []
unfolding letter_occurrences
letters_ex x p =
    let e : letter_occurrences (s.Ex x p) ≡ s.Ex x (seen letters_step p).itself ∷ [] = search (rules, the_lemmas) in
    e ∙ ap (λ (q : Sent). s.Ex x q ∷ []) (itself_is letters_step p)

all_values : (v : Sent → Bool) (ps : List Sent) → list_all (λ (x : Seen Bool). x.made) (map (seen (value_step v)) ps) ≡ list_all (value v) ps
unfolding value
all_values v [] = refl
all_values v (p ∷ ps) = ap (λ b. value v p && b) (all_values v ps)

some_values : (v : Sent → Bool) (ps : List Sent) → list_any (λ (x : Seen Bool). x.made) (map (seen (value_step v)) ps) ≡ list_any (value v) ps
unfolding value
some_values v [] = refl
some_values v (p ∷ ps) = ap (λ b. value v p || b) (some_values v ps)

pub value_atom : (v : Sent → Bool) (p : Word) (ts : List Term) → value v (s.Atom p ts) ≡ v (s.Atom p ts)
unfolding value
value_atom v p ts = search (rules, the_lemmas)

pub value_eq : (v : Sent → Bool) (a b : Term) → value v (s.Eq a b) ≡ v (s.Eq a b)
unfolding value
value_eq v a b = search (rules, the_lemmas)

pub value_bottom : (v : Sent → Bool) → value v s.Bottom ≡ false
unfolding value
value_bottom v = search (rules, the_lemmas)

pub value_not : (v : Sent → Bool) (p : Sent) → value v (s.Not p) ≡ not (value v p)
unfolding value
value_not v p = search (rules, the_lemmas)

pub value_and : (v : Sent → Bool) (ps : List Sent) → value v (s.And ps) ≡ list_all (value v) ps
unfolding value
value_and v ps =
    let e : value v (s.And ps) ≡ list_all (λ (x : Seen Bool). x.made) (map (seen (value_step v)) ps) = search (rules, the_lemmas) in
    e ∙ all_values v ps

pub value_or : (v : Sent → Bool) (ps : List Sent) → value v (s.Or ps) ≡ list_any (value v) ps
unfolding value
value_or v ps =
    let e : value v (s.Or ps) ≡ list_any (λ (x : Seen Bool). x.made) (map (seen (value_step v)) ps) = search (rules, the_lemmas) in
    e ∙ some_values v ps

pub value_if : (v : Sent → Bool) (p q : Sent) → value v (s.If p q) ≡ (not (value v p) || value v q)
unfolding value
value_if v p q = search (rules, the_lemmas)

pub value_iff : (v : Sent → Bool) (p q : Sent) → value v (s.Iff p q) ≡ agree (value v p) (value v q)
unfolding value
value_iff v p q = search (rules, the_lemmas)

pub value_all : (v : Sent → Bool) (x : Word) (p : Sent) → value v (s.All x p) ≡ v (s.All x p)
unfolding value
value_all v x p =
    let e : value v (s.All x p) ≡ v (s.All x (seen (value_step v) p).itself) = search (rules, the_lemmas) in
    e ∙ ap (λ (q : Sent). v (s.All x q)) (itself_is (value_step v) p)

pub value_ex : (v : Sent → Bool) (x : Word) (p : Sent) → value v (s.Ex x p) ≡ v (s.Ex x p)
unfolding value
value_ex v x p =
    let e : value v (s.Ex x p) ≡ v (s.Ex x (seen (value_step v) p).itself) = search (rules, the_lemmas) in
    e ∙ ap (λ (q : Sent). v (s.Ex x q)) (itself_is (value_step v) p)
