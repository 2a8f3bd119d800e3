-- There is at most one orderly tree with n inner nodes.
use Rattle.std.proofs.Common.{◌≡◌, ◌+◌, ◌<◌, List, [], ◌∷◌, ◌++◌, refl, ap, ap₂, sym, ◌∙◌, subst, Bool, true, false, inl, inr, ◌⊎◌, Option, Some, None, arith, true≢false}
use Rattle.tableau_laws.specs.declared.literal.Literal.{Literal as Signed}
use Rattle.tableau_laws.specs.Choice.{Choice, added}
use Rattle.tableau_laws.specs.Clauses.{Clause}
use Rattle.tableau_laws.specs.Choices.{first, is_closed}
use Rattle.tableau_laws.specs.Tableau.{Tableau, Grove, leaf, inner, none, more, applications, applications_in, IsDone, AreDone, AreLeft, WorksAt, WorkAt, IsOrderly}

abbrev choice_or : Choice → Option Choice → Choice
choice_or d None = d
choice_or d (Some c) = c

pub same_choice : (cs : List Clause) (b : List Signed) (c d : Choice) → first cs b ≡ Some c → first cs b ≡ Some d → d ≡ c
same_choice cs b c d e f = ap (choice_or d) (sym f ∙ e)

pub clash : {X : Type 0} (b : Bool) → b ≡ true → b ≡ false → X
clash b e f = absurd (true≢false (sym e ∙ f))

mutual
  pub done_same : (cs : List Clause) (b : List Signed) (t u : Tableau) → IsDone cs b t → IsDone cs b u → t ≡ u
  done_same cs b leaf leaf h k = refl
  done_same cs b leaf (inner g) h k = clash (is_closed cs b) h k.0
  done_same cs b (inner g) leaf h k = clash (is_closed cs b) k h.0
  done_same cs b (inner g) (inner i) h k = ap inner (groves_same cs b (added b h.1.0) g i h.1.2 (subst (λ c. AreDone cs b (added b c) i) (same_choice cs b h.1.0 k.1.0 h.1.1 k.1.1) k.1.2))

  groves_same : (cs : List Clause) (b : List Signed) (news : List (List Signed)) (g i : Grove) → AreDone cs b news g → AreDone cs b news i → g ≡ i
  groves_same cs b [] none none h k = refl
  groves_same cs b (new ∷ news) (more ls t g) (more ms u i) h k =
      ap (λ z. more z t g) (h.0 ∙ sym k.0)
      ∙ ap₂ (more ms) (done_same cs b' t u (subst (λ z. IsDone cs (b ++ z) t) h.0 h.1) (subst (λ z. IsDone cs (b ++ z) u) k.0 k.1)) (groves_same cs b news g i h.2 k.2)
    where
      b' : List Signed
      b' = b ++ new
  groves_same cs b [] (more ls t g) i h k = absurd h
  groves_same cs b [] none (more ls t g) h k = absurd k
  groves_same cs b (new ∷ news) none i h k = absurd h
  groves_same cs b (new ∷ news) (more ls t g) none h k = absurd k

pub left_none : (news : List (List Signed)) (g : Grove) → AreLeft news g → applications_in g ≡ 0
left_none [] none h = refl
left_none (new ∷ news) (more ls leaf g) h = omega (arith, left_none news g h.1)
left_none [] (more ls t g) h = absurd h
left_none (new ∷ news) none h = absurd h
left_none (new ∷ news) (more ls (inner i) g) h = absurd h

left_same : (news : List (List Signed)) (g i : Grove) → AreLeft news g → AreLeft news i → g ≡ i
left_same [] none none h k = refl
left_same (new ∷ news) (more ls leaf g) (more ms leaf i) h k = ap₂ (λ z w. more z leaf w) (h.0 ∙ sym k.0) (left_same news g i h.1 k.1)
left_same [] (more ls t g) i h k = absurd h
left_same [] none (more ls t g) h k = absurd k
left_same (new ∷ news) none i h k = absurd h
left_same (new ∷ news) (more ls (inner j) g) i h k = absurd h
left_same (new ∷ news) (more ls leaf g) none h k = absurd k
left_same (new ∷ news) (more ls leaf g) (more ms (inner j) i) h k = absurd k

fewer_at : (cs : List Clause) (b w new : List Signed) (news : List (List Signed)) (ls ms : List Signed) (t u : Tableau) (g i : Grove) → AreDone cs b (new ∷ news) (more ls t g) → ms ≡ new →
    (IsDone cs (b ++ ms) u × WorkAt cs b news i w) ⊎ (WorksAt cs (b ++ ms) u w × AreLeft news i) →
    (WorkAt cs b news i w → applications_in i < applications_in g) → (WorksAt cs (b ++ ms) u w → applications u < applications t) →
    applications u + applications_in i < applications t + applications_in g
fewer_at cs b w new news ls ms t u g i h e (inl k) f m = omega (arith, f k.1, ap applications (done_same cs (b ++ ls) t u h.1 (subst (λ z. IsDone cs (b ++ z) u) (e ∙ sym h.0) k.0)))
fewer_at cs b w new news ls ms t u g i h e (inr k) f m = omega (arith, m k.0, left_none news i k.1)

mutual
  -- where work stands, fewer applications were made than where all is closed
  pub fewer : (cs : List Clause) (b w : List Signed) (t u : Tableau) → IsDone cs b t → WorksAt cs b u w → applications u < applications t
  fewer cs b w leaf leaf h k = clash (is_closed cs b) h k.0
  fewer cs b w leaf (inner i) h k = clash (is_closed cs b) h k.0
  fewer cs b w (inner g) leaf h k = omega arith
  fewer cs b w (inner g) (inner i) h k = omega (arith, fewer_in cs b w (added b h.1.0) g i h.1.2 (subst (λ c. WorkAt cs b (added b c) i w) (same_choice cs b h.1.0 k.1.0 h.1.1 k.1.1) k.1.2))

  fewer_in : (cs : List Clause) (b w : List Signed) (news : List (List Signed)) (g i : Grove) → AreDone cs b news g → WorkAt cs b news i w → applications_in i < applications_in g
  fewer_in cs b w [] g none h k = absurd k
  fewer_in cs b w [] g (more ms u i) h k = absurd k
  fewer_in cs b w (new ∷ news) none i h k = absurd h
  fewer_in cs b w (new ∷ news) (more ls t g) none h k = absurd k
  fewer_in cs b w (new ∷ news) (more ls t g) (more ms u i) h k =
      fewer_at cs b w new news ls ms t u g i h k.0 k.1
      (λ x. fewer_in cs b w news g i h.2 x)
      (λ x. fewer cs (b ++ ls) w t u h.1 (subst (λ z. WorksAt cs (b ++ z) u w) (k.0 ∙ sym h.0) x))

work_at : (cs : List Clause) (b w v : List Signed) (news : List (List Signed)) (ms : List Signed) (t u : Tableau) (g i : Grove) →
    (IsDone cs (b ++ ms) t × WorkAt cs b news g w) ⊎ (WorksAt cs (b ++ ms) t w × AreLeft news g) →
    (IsDone cs (b ++ ms) u × WorkAt cs b news i v) ⊎ (WorksAt cs (b ++ ms) u v × AreLeft news i) →
    applications t + applications_in g ≡ applications u + applications_in i →
    (WorkAt cs b news g w → WorkAt cs b news i v → applications_in g ≡ applications_in i → g ≡ i) →
    (WorksAt cs (b ++ ms) t w → WorksAt cs (b ++ ms) u v → applications t ≡ applications u → t ≡ u) → more ms t g ≡ more ms u i
work_at cs b w v news ms t u g i (inl h) (inl k) e f m =
    let s : t ≡ u = done_same cs (b ++ ms) t u h.0 k.0 in
    ap₂ (more ms) s (f h.1 k.1 (omega (arith, e, ap applications s)))
work_at cs b w v news ms t u g i (inl h) (inr k) e f m = absurd (omega (arith, e, left_none news i k.1, fewer cs (b ++ ms) v t u h.0 k.0))
work_at cs b w v news ms t u g i (inr h) (inl k) e f m = absurd (omega (arith, e, left_none news g h.1, fewer cs (b ++ ms) w u t k.0 h.0))
work_at cs b w v news ms t u g i (inr h) (inr k) e f m = ap₂ (more ms) (m h.0 k.0 (omega (arith, e, left_none news g h.1, left_none news i k.1))) (left_same news g i h.1 k.1)

mutual
  works_same : (cs : List Clause) (b w v : List Signed) (t u : Tableau) → WorksAt cs b t w → WorksAt cs b u v → applications t ≡ applications u → t ≡ u
  works_same cs b w v leaf leaf h k e = refl
  works_same cs b w v leaf (inner i) h k e = absurd (omega (arith, e))
  works_same cs b w v (inner g) leaf h k e = absurd (omega (arith, e))
  works_same cs b w v (inner g) (inner i) h k e = ap inner (work_same cs b w v (added b h.1.0) g i h.1.2 (subst (λ c. WorkAt cs b (added b c) i v) (same_choice cs b h.1.0 k.1.0 h.1.1 k.1.1) k.1.2) (omega (arith, e)))

  work_same : (cs : List Clause) (b w v : List Signed) (news : List (List Signed)) (g i : Grove) → WorkAt cs b news g w → WorkAt cs b news i v → applications_in g ≡ applications_in i → g ≡ i
  work_same cs b w v [] none i h k e = absurd h
  work_same cs b w v [] (more ls t g) i h k e = absurd h
  work_same cs b w v (new ∷ news) none i h k e = absurd h
  work_same cs b w v (new ∷ news) (more ls t g) none h k e = absurd k
  work_same cs b w v (new ∷ news) (more ls t g) (more ms u i) h k e =
      ap (λ z. more z t g) (h.0 ∙ sym k.0)
      ∙ work_at cs b w v news ms t u g i
      (subst (λ z. (IsDone cs (b ++ z) t × WorkAt cs b news g w) ⊎ (WorksAt cs (b ++ z) t w × AreLeft news g)) (h.0 ∙ sym k.0) h.1) k.1 e
      (λ x y f. work_same cs b w v news g i x y f) (λ x y f. works_same cs (b ++ ms) w v t u x y f)

pub orderly_unique : (cs : List Clause) (b : List Signed) (t u : Tableau) → IsOrderly cs b t → IsOrderly cs b u → applications t ≡ applications u → t ≡ u
orderly_unique cs b t u (inl h) (inl k) e = done_same cs b t u h k
orderly_unique cs b t u (inl h) (inr k) e = absurd (omega (arith, e, fewer cs b k.0 t u h k.1))
orderly_unique cs b t u (inr h) (inl k) e = absurd (omega (arith, e, fewer cs b h.0 u t k h.1))
orderly_unique cs b t u (inr h) (inr k) e = works_same cs b h.0 k.0 t u h.1 k.1 e
