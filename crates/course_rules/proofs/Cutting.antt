-- The halves of a text that is cut at its first byte of a kind.
use Rattle.std.proofs.Common.{◌≡◌, ℕ, Bool, true, false, List, [], ◌∷◌, ◌++◌, Option, Some, None, option_map, refl, ap, sym, ◌∙◌, eq-eqb, Bor}
use Rattle.std.specs.Prelude.{◌==◌, ◌||◌}
use Rattle.std.specs.List.{list_any}
use Rattle.std.specs.Prelude.{MatchOption}
use Rattle.texts.specs.Cuts.{Lacks, IsCut}
use Rattle.course_rules.specs.RuleForm.{halves}

or_false : (a b : Bool) → (a || b) ≡ false → (a ≡ false) × (b ≡ false)
or_false true b e = absurd (cc)
or_false false b e = (refl, e)

past : (c b : ℕ) (bs : List ℕ) → (b == c) ≡ false → halves c (b ∷ bs) ≡ option_map (λ h. (b ∷ h.0, h.1)) (halves c bs)
past c b bs e = rw e refl

at_once : (c b : ℕ) (bs : List ℕ) → (b == c) ≡ true → halves c (b ∷ bs) ≡ Some ([], bs)
at_once c b bs e = rw e refl

split_at : (c : ℕ) (front rest : List ℕ) → Lacks c front → halves c (front ++ c ∷ rest) ≡ Some (front, rest)
split_at c [] rest h = at_once c c rest (eq-eqb c c refl)
split_at c (b ∷ bs) rest h =
    let apart : ((b == c) ≡ false) × Lacks c bs = or_false (b == c) (list_any (λ x. x == c) bs) h in
    past c b (bs ++ c ∷ rest) apart.0 ∙ ap (option_map (λ h. (b ∷ h.0, h.1))) (split_at c bs rest apart.1)

pub halves_cut : (c : ℕ) (text front rest : List ℕ) → IsCut c text front rest → Some (front, rest) ≡ halves c text
halves_cut c text front rest h = sym (ap (halves c) h.joined ∙ split_at c front rest h.first)

pub halves_none : (c : ℕ) (text : List ℕ) → Lacks c text → None ≡ halves c text
halves_none c [] h = refl
halves_none c (b ∷ bs) h =
    let apart : ((b == c) ≡ false) × Lacks c bs = or_false (b == c) (list_any (λ x. x == c) bs) h in
    sym (past c b bs apart.0 ∙ ap (option_map (λ h. (b ∷ h.0, h.1))) (sym (halves_none c bs apart.1)))

pub halves_match : (c : ℕ) (text : List ℕ) (r : Option (Bor (List ℕ) × Bor (List ℕ))) → MatchOption r (Lacks c text) (λ p. IsCut c text p.0.now p.1.now) → option_map (λ p. (p.0.now, p.1.now)) r ≡ halves c text
halves_match c text None h = halves_none c text h
halves_match c text (Some p) h = halves_cut c text p.0.now p.1.now h
