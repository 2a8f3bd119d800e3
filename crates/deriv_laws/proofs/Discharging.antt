-- How open assumptions come about part by part, less what is discharged.
use Rattle.std.proofs.Common.{◌≡◌, ℕ, zero, suc, ◌+◌, ◌-◌, ◌<◌, ◌≤◌, Bor, Bool, true, false, List, [], ◌∷◌, ◌++◌, length, map, replicate, take, get_or, refl, ap, ap₂, sym, ◌∙◌, subst, arith, rules, append_assoc, append-nil, add-one}
use Rattle.std.specs.Prelude.{not, ◌||◌, cond}
use Rattle.std.specs.List.{list_any}
use Rattle.fol_core.specs.declared.sent.Sent.{Sent}
use Rattle.fol_core.proofs.Equality.{alike_refl, alike_same}
use Rattle.deriv_laws.specs.declared.tree.Tree.{Tree}
use Rattle.deriv_laws.specs.Discharge.{alike, without, joined}
use Rattle.deriv_laws.specs.Trees.{concl, undischarged}
use Rattle.deriv_laws.specs.declared.discharge.Dropped.{Dropped, the_lemmas as dropped_lemmas}
use Rattle.deriv_laws.specs.declared.discharge.Dropped.TheVariants.{Nothing, More}
use Rattle.deriv_laws.specs.declared.discharge.Removed.{Removed}
use Rattle.deriv_laws.specs.Dropped.{removed, sentences, list_at}

-- whether the sentence is one of the discharged
abbrev is_among : List Sent → Sent → Bool
is_among ds s = list_any (λ d. alike d s) ds

kept_append : (b : Bool) (s : Sent) (xs ys : List Sent) → cond (not b) (s ∷ (xs ++ ys)) (xs ++ ys) ≡ cond (not b) (s ∷ xs) xs ++ ys
kept_append true s xs ys = refl
kept_append false s xs ys = refl

-- what is left of two lists is what is left of each
pub without_append : (ds xs ys : List Sent) → without ds (xs ++ ys) ≡ without ds xs ++ without ds ys
without_append ds [] ys = refl
without_append ds (x ∷ xs) ys =
    ap (λ ss. cond (not (is_among ds x)) (x ∷ ss) ss) (without_append ds xs ys)
    ∙ kept_append (is_among ds x) x (without ds xs) (without ds ys)

-- where nothing is discharged all is left
pub without_none : (ss : List Sent) → without [] ss ≡ ss
without_none [] = refl
without_none (s ∷ ss) = ap (λ xs. s ∷ xs) (without_none ss)

twice_kept : (ds : List Sent) (s : Sent) (rest : List Sent) (a b : Bool) → a ≡ is_among ds s →
    without ds (cond (not b) (s ∷ rest) rest) ≡ cond (not (b || a)) (s ∷ without ds rest) (without ds rest)
twice_kept ds s rest a true e = refl
twice_kept ds s rest a false e = ap (λ c. cond (not c) (s ∷ without ds rest) (without ds rest)) (sym e)

-- what is left once one sentence and then others are dropped
pub without_more : (d : Sent) (ds ss : List Sent) → without ds (without (d ∷ []) ss) ≡ without (d ∷ ds) ss
without_more d ds [] = refl
without_more d ds (s ∷ ss) =
    twice_kept ds s (without (d ∷ []) ss) (is_among ds s) (alike d s || false) refl
    ∙ ap (λ xs. cond (not ((alike d s || false) || is_among ds s)) (s ∷ xs) xs) (without_more d ds ss)
    ∙ ap (λ c. cond (not c) (s ∷ without (d ∷ ds) ss) (without (d ∷ ds) ss)) (no_more (alike d s) (is_among ds s))
  where
    no_more : (a b : Bool) → ((a || false) || b) ≡ (a || b)
    no_more true b = refl
    no_more false b = refl

more_open : (ts : List Tree) (ds : List (List Sent)) (i : ℕ) (t : Tree) → i < length ts → t ≡ get_or ts i t →
    joined (map undischarged (take (suc i) ts)) ds ≡ joined (map undischarged (take i ts)) ds ++ without (list_at ds i) (undischarged t)
more_open [] ds i t h e = absurd (omega (arith, h))
more_open (u ∷ ts) [] zero t h e = append-nil (undischarged u) ∙ ap undischarged (sym e) ∙ sym (without_none (undischarged t))
more_open (u ∷ ts) (d ∷ ds) zero t h e = append-nil (without d (undischarged u)) ∙ ap (λ v. without d (undischarged v)) (sym e)
more_open (u ∷ ts) [] (suc i) t h e =
    ap (λ ss. undischarged u ++ ss) (more_open ts [] i t (omega (arith, h)) e)
    ∙ sym (append_assoc (undischarged u) (joined (map undischarged (take i ts)) []) (without [] (undischarged t)))
more_open (u ∷ ts) (d ∷ ds) (suc i) t h e =
    ap (λ ss. without d (undischarged u) ++ ss) (more_open ts ds i t (omega (arith, h)) e)
    ∙ sym (append_assoc (without d (undischarged u)) (joined (map undischarged (take i ts)) ds) (without (list_at ds i) (undischarged t)))

-- what one part more leaves open
pub joined_more : (ts : List Tree) (ds : List (List Sent)) (i : ℕ) (t : Tree) → i < length ts → t ≡ get_or ts i t →
    joined (map undischarged (take (i + 1) ts)) ds ≡ joined (map undischarged (take i ts)) ds ++ without (list_at ds i) (undischarged t)
joined_more ts ds i t h e = rw (add-one i) (more_open ts ds i t h e)

-- once the outer ones are dropped too
pub dropped_more : (outer : List Sent) (ts : List Tree) (ds : List (List Sent)) (i : ℕ) (t : Tree) → i < length ts → t ≡ get_or ts i t →
    without outer (joined (map undischarged (take (i + 1) ts)) ds) ≡ without outer (joined (map undischarged (take i ts)) ds) ++ without outer (without (list_at ds i) (undischarged t))
dropped_more outer ts ds i t h e =
    ap (λ ss. without outer ss) (joined_more ts ds i t h e) ∙ without_append outer (joined (map undischarged (take i ts)) ds) (without (list_at ds i) (undischarged t))

-- the dropped sentences, where nothing is dropped
pub nothing_dropped : sentences Nothing ≡ []
nothing_dropped = search (rules, dropped_lemmas)

-- the dropped sentences, where one more is dropped
pub more_dropped : (d : Removed) (rest : Bor Dropped) → sentences (More d rest) ≡ removed d ∷ sentences rest.now
more_dropped d rest = search (rules, dropped_lemmas)

-- what was added so far, and by one part more
pub after_part : (outer : List Sent) (ts : List Tree) (ds : List (List Sent)) (i : ℕ) (t : Tree) (d start now new : List Sent) → i < length ts → t ≡ get_or ts i t → list_at ds i ≡ d →
    now ≡ start ++ without outer (joined (map undischarged (take i ts)) ds) → new ≡ now ++ without outer (without d (undischarged t)) →
    new ≡ start ++ without outer (joined (map undischarged (take (i + 1) ts)) ds)
after_part outer ts ds i t d start now new h e at_i so_far more =
    more ∙ ap (λ ss. ss ++ without outer (without d (undischarged t))) so_far
    ∙ append_assoc start (without outer (joined (map undischarged (take i ts)) ds)) (without outer (without d (undischarged t)))
    ∙ ap (λ ss. start ++ ss) (ap (λ dd. without outer (joined (map undischarged (take i ts)) ds) ++ without outer (without dd (undischarged t))) (sym at_i) ∙ sym (dropped_more outer ts ds i t h e))

-- what an assumption adds of its own, before what its parts add
pub own_and_parts : (old mid new ds js os : List Sent) (s : Sent) → mid ≡ old ++ without ds (s ∷ []) → new ≡ mid ++ without ds js → os ≡ s ∷ js → new ≡ old ++ without ds os
own_and_parts old mid new ds js os s own more e =
    more ∙ ap (λ ss. ss ++ without ds js) own ∙ append_assoc old (without ds (s ∷ [])) (without ds js)
    ∙ ap (λ ss. old ++ ss) (sym (without_append ds (s ∷ []) js)) ∙ ap (λ ss. old ++ without ds ss) (sym e)

pub parts_alone : (old mid new ds js os : List Sent) → mid ≡ old → new ≡ mid ++ without ds js → os ≡ js → new ≡ old ++ without ds os
parts_alone old mid new ds js os own more e = more ∙ ap₂ (λ ss ts. ss ++ without ds ts) own (sym e)

-- whether a sentence is one of two or more dropped ones, decided by the first
pub dropped_first : (d s : Sent) (ds : List Sent) → d ≡ s → true ≡ is_among (d ∷ ds) s
dropped_first d s ds e = ap (λ b. b || is_among ds s) (sym (ap (λ x. alike d x) (sym e) ∙ alike_refl d))

pub dropped_later : (d s : Sent) (ds : List Sent) → (d ≡ s → ⊥) → is_among ds s ≡ is_among (d ∷ ds) s
dropped_later d s ds n = ap (λ b. b || is_among ds s) (sym (unlike (alike d s) refl))
  where
    unlike : (b : Bool) → b ≡ alike d s → alike d s ≡ false
    unlike true e = absurd (n (alike_same d s (sym e)))
    unlike false e = sym e

-- what is discharged in the part for a case: the case in its place
case_here : (ps : List Sent) (k : ℕ) (q : Sent) → k < length ps → q ≡ get_or ps k q → list_at (map (λ p. p ∷ []) ps) k ≡ q ∷ []
case_here [] k q h e = absurd (omega (arith, h))
case_here (p ∷ ps) zero q h e = ap (λ x. x ∷ []) (sym e)
case_here (p ∷ ps) (suc k) q h e = case_here ps k q (omega (arith, h)) e

no_case : (ps : List Sent) (k : ℕ) → length ps ≤ k → list_at (map (λ p. p ∷ []) ps) k ≡ []
no_case [] k h = refl
no_case (p ∷ ps) zero h = absurd (omega (arith, h))
no_case (p ∷ ps) (suc k) h = no_case ps k (omega (arith, h))

pub case_found : (ps : List Sent) (i : ℕ) (q : Sent) → (i ≡ 0 → ⊥) → i - 1 < length ps → q ≡ get_or ps (i - 1) q → q ∷ [] ≡ list_at ([] ∷ map (λ p. p ∷ []) ps) i
case_found ps zero q n h e = absurd (n refl)
case_found ps (suc k) q n h e = let f : suc k - 1 ≡ k = omega arith in
    sym (case_here ps k q (subst (λ j. j < length ps) f h) (subst (λ j. q ≡ get_or ps j q) f e))

pub case_past : (ps : List Sent) (i : ℕ) → (i ≡ 0 → ⊥) → length ps ≤ i - 1 → [] ≡ list_at ([] ∷ map (λ p. p ∷ []) ps) i
case_past ps zero n h = absurd (n refl)
case_past ps (suc k) n h = sym (no_case ps k (omega (arith, h)))

-- the same in each part
pub list_throughout : (d : List Sent) (n i : ℕ) → i < n → d ≡ list_at (replicate n d) i
list_throughout d zero i h = absurd (omega (arith, h))
list_throughout d (suc n) zero h = refl
list_throughout d (suc n) (suc i) h = list_throughout d n i (omega (arith, h))

pub past_throughout : (d : List Sent) (n i : ℕ) → n ≤ i → [] ≡ list_at (replicate n d) i
past_throughout d zero i h = refl
past_throughout d (suc n) zero h = absurd (omega (arith, h))
past_throughout d (suc n) (suc i) h = past_throughout d n i (omega (arith, h))

pub same_throughout : (d : List Sent) (ts : List Tree) → replicate (length ts) d ≡ map (λ q. d) (map concl ts)
same_throughout d [] = refl
same_throughout d (t ∷ ts) = ap (λ ds. d ∷ ds) (same_throughout d ts)

-- what is left where nothing was there before and nothing is dropped
pub from_nothing : (start new os : List Sent) (d : Dropped) → sentences d ≡ [] → start ≡ [] → new ≡ start ++ without (sentences d) os → new ≡ os
from_nothing start new os d none empty e = e ∙ ap₂ (λ ss ds. ss ++ without ds os) empty none ∙ without_none os
