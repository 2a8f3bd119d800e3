-- A text is cut at a byte in one way at most.
use Rattle.std.proofs.Common.{◌≡◌, ℕ, eqb, true, false, List, [], ◌∷◌, ◌++◌, refl, sym, ap₂, ◌∙◌, eq-eqb}
use Rattle.std.specs.List.{list_any}
use Rattle.texts.specs.Cuts.{Lacks, IsCut}
use Rattle.texts.proofs.Splitting.{or_false}

not_here : (c x : ℕ) (xs : List ℕ) → Lacks c (x ∷ xs) → x ≡ c → ⊥
not_here c x xs h e =
    let apart : (eqb x c ≡ false) × Lacks c xs = or_false (eqb x c) (list_any (λ b. eqb b c) xs) h in
    let same : eqb x c ≡ true = eq-eqb x c e in
    cc

not_after : (c x : ℕ) (xs : List ℕ) → Lacks c (x ∷ xs) → Lacks c xs
not_after c x xs h = (or_false (eqb x c) (list_any (λ b. eqb b c) xs) h).1

fronts : (c : ℕ) (xs ys us vs : List ℕ) → Lacks c xs → Lacks c ys → xs ++ c ∷ us ≡ ys ++ c ∷ vs → (xs ≡ ys) × (us ≡ vs)
fronts c [] [] us vs h k e = (refl, cc)
fronts c [] (y ∷ ys) us vs h k e = absurd (not_here c y ys k (cc))
fronts c (x ∷ xs) [] us vs h k e = absurd (not_here c x xs h (cc))
fronts c (x ∷ xs) (y ∷ ys) us vs h k e =
    let first : x ≡ y = cc in
    let rest : xs ++ c ∷ us ≡ ys ++ c ∷ vs = cc in
    let both : (xs ≡ ys) × (us ≡ vs) = fronts c xs ys us vs (not_after c x xs h) (not_after c y ys k) rest in
    (ap₂ ◌∷◌ first both.0, both.1)

pub cut_once : (c : ℕ) (text xs us ys vs : List ℕ) → IsCut c text xs us → IsCut c text ys vs → (xs ≡ ys) × (us ≡ vs)
cut_once c text xs us ys vs h k = fronts c xs ys us vs h.first k.first (sym h.joined ∙ k.joined)

lacks_not : (c : ℕ) (xs us : List ℕ) → Lacks c (xs ++ c ∷ us) → ⊥
lacks_not c [] us h = not_here c c us h refl
lacks_not c (x ∷ xs) us h = lacks_not c xs us (not_after c x (xs ++ c ∷ us) h)

pub lacks_not_cut : (c : ℕ) (text xs us : List ℕ) → Lacks c text → IsCut c text xs us → ⊥
lacks_not_cut c text xs us h k = lacks_not c xs us (rw k.joined at h)
