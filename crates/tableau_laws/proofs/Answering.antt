-- There is at most one answer.
use Rattle.std.proofs.Common.{◌≡◌, ◌≢◌, ℕ, ◌+◌, ◌<◌, ◌≤◌, List, [], ◌∷◌, ◌++◌, refl, ap, sym, ◌∙◌, subst, Bool, true, false, inl, inr, ◌⊎◌, Option, Some, None, arith, true≢false}
use Rattle.tableau_laws.specs.declared.literal.Literal.{Literal as Signed}
use Rattle.tableau_laws.specs.declared.literal.ConAnswer.{ConAnswer}
use Rattle.tableau_laws.specs.declared.literal.ConAnswer.TheVariants.{Closed, Open, Spent}
use Rattle.tableau_laws.specs.Choice.{added}
use Rattle.tableau_laws.specs.Clauses.{Clause}
use Rattle.tableau_laws.specs.Choices.{first, is_closed}
use Rattle.tableau_laws.specs.Tableau.{Tableau, Grove, leaf, inner, none, more, applications, applications_in, IsDone, AreDone, AreLeft, WorksAt, WorkAt}
use Rattle.tableau_laws.specs.Answer.{IsAnswer, literals}
use Rattle.tableau_laws.proofs.Unique.{same_choice, clash, done_same, left_none, fewer}

is_some : {X : Type 0} → Option X → Bool
is_some None = false
is_some (Some x) = true

pub some_not_none : {X : Type 0} (o : Option X) (x : X) → o ≡ Some x → o ≢ None
unfolding is_some
some_not_none o x e n = true≢false (ap is_some (sym e ∙ n))

mutual
  -- where all is closed in one tree, work in another stands at a branch that isn't finished
  unfinished : (cs : List Clause) (b v : List Signed) (t u : Tableau) → IsDone cs b t → WorksAt cs b u v → first cs v ≢ None
  unfinished cs b v leaf leaf h k = clash (is_closed cs b) h k.0
  unfinished cs b v leaf (inner i) h k = clash (is_closed cs b) h k.0
  unfinished cs b v (inner g) leaf h k = some_not_none (first cs v) h.1.0 (ap (first cs) k.1 ∙ h.1.1)
  unfinished cs b v (inner g) (inner i) h k =
      unfinished_in cs b v (added b h.1.0) g i h.1.2 (subst (λ c. WorkAt cs b (added b c) i v) (same_choice cs b h.1.0 k.1.0 h.1.1 k.1.1) k.1.2)

  unfinished_in : (cs : List Clause) (b v : List Signed) (news : List (List Signed)) (g i : Grove) → AreDone cs b news g → WorkAt cs b news i v → first cs v ≢ None
  unfinished_in cs b v [] g none h k = absurd k
  unfinished_in cs b v [] g (more ms u i) h k = absurd k
  unfinished_in cs b v (new ∷ news) none i h k = absurd h
  unfinished_in cs b v (new ∷ news) (more ls t g) none h k = absurd k
  unfinished_in cs b v (new ∷ news) (more ls t g) (more ms u i) h k = elim (k.1) [
    | inl x ↦ unfinished_in cs b v news g i h.2 x.1
    | inr x ↦ unfinished cs (b ++ ls) v t u h.1 (subst (λ z. WorksAt cs (b ++ z) u v) (k.0 ∙ sym h.0) x.0)
  ]

-- the one tree works at the branch at which the other does, or has gone less far and isn't finished there
abbrev Behind : List Clause → List Signed → List Signed → ℕ → ℕ → Type 0
Behind cs w v n m = (v ≡ w) ⊎ ((first cs v ≢ None) × (m < n))

behind_more : (cs : List Clause) (w v : List Signed) (n m n' m' : ℕ) → (m < n → m' < n') → Behind cs w v n m → Behind cs w v n' m'
behind_more cs w v n m n' m' f (inl e) = inl e
behind_more cs w v n m n' m' f (inr e) = inr (e.0, f e.1)

behind_at : (cs : List Clause) (b w v : List Signed) (news : List (List Signed)) (new : List Signed) (t u : Tableau) (g i : Grove) →
    (IsDone cs (b ++ new) t × WorkAt cs b news g w) ⊎ (WorksAt cs (b ++ new) t w × AreLeft news g) →
    (IsDone cs (b ++ new) u × WorkAt cs b news i v) ⊎ (WorksAt cs (b ++ new) u v × AreLeft news i) →
    first cs w ≡ None →
    (WorkAt cs b news g w → WorkAt cs b news i v → Behind cs w v (applications_in g) (applications_in i)) →
    (WorksAt cs (b ++ new) t w → WorksAt cs (b ++ new) u v → Behind cs w v (applications t) (applications u)) →
    Behind cs w v (applications t + applications_in g) (applications u + applications_in i)
behind_at cs b w v news new t u g i (inl h) (inl k) e f m =
    behind_more cs w v (applications_in g) (applications_in i) _ _ (λ l. omega (arith, l, ap applications (done_same cs (b ++ new) t u h.0 k.0))) (f h.1 k.1)
behind_at cs b w v news new t u g i (inl h) (inr k) e f m =
    inr (unfinished cs (b ++ new) v t u h.0 k.0, omega (arith, fewer cs (b ++ new) v t u h.0 k.0, left_none news i k.1))
behind_at cs b w v news new t u g i (inr h) (inl k) e f m = absurd (unfinished cs (b ++ new) w u t k.0 h.0 e)
behind_at cs b w v news new t u g i (inr h) (inr k) e f m =
    behind_more cs w v (applications t) (applications u) _ _ (λ l. omega (arith, l, left_none news g h.1, left_none news i k.1)) (m h.0 k.0)

mutual
  behind : (cs : List Clause) (b w v : List Signed) (t u : Tableau) → WorksAt cs b t w → WorksAt cs b u v → first cs w ≡ None → Behind cs w v (applications t) (applications u)
  behind cs b w v leaf leaf h k e = inl (k.1 ∙ sym h.1)
  behind cs b w v leaf (inner i) h k e = absurd (some_not_none (first cs w) k.1.0 (ap (first cs) h.1 ∙ k.1.1) e)
  behind cs b w v (inner g) leaf h k e = inr (some_not_none (first cs v) h.1.0 (ap (first cs) k.1 ∙ h.1.1), omega arith)
  behind cs b w v (inner g) (inner i) h k e =
      behind_more cs w v (applications_in g) (applications_in i) _ _ (λ l. omega (arith, l))
      (behind_in cs b w v (added b h.1.0) g i h.1.2 (subst (λ c. WorkAt cs b (added b c) i v) (same_choice cs b h.1.0 k.1.0 h.1.1 k.1.1) k.1.2) e)

  behind_in : (cs : List Clause) (b w v : List Signed) (news : List (List Signed)) (g i : Grove) → WorkAt cs b news g w → WorkAt cs b news i v → first cs w ≡ None →
      Behind cs w v (applications_in g) (applications_in i)
  behind_in cs b w v [] none i h k e = absurd h
  behind_in cs b w v [] (more ls t g) i h k e = absurd h
  behind_in cs b w v (new ∷ news) none i h k e = absurd h
  behind_in cs b w v (new ∷ news) (more ls t g) none h k e = absurd k
  behind_in cs b w v (new ∷ news) (more ls t g) (more ms u i) h k e =
      behind_at cs b w v news ms t u g i
      (subst (λ z. (IsDone cs (b ++ z) t × WorkAt cs b news g w) ⊎ (WorksAt cs (b ++ z) t w × AreLeft news g)) (h.0 ∙ sym k.0) h.1) k.1 e
      (λ x y. behind_in cs b w v news g i x y e) (λ x y. behind cs (b ++ ms) w v t u x y e)

same_open : (cs : List Clause) (w v : List Signed) (n m : ℕ) (ls ms : List Signed) → Behind cs w v n m → first cs v ≡ None → ls ≡ literals w → ms ≡ literals v → ls ≡ ms
same_open cs w v n m ls ms (inl e) f p q = p ∙ ap literals (sym e) ∙ sym q
same_open cs w v n m ls ms (inr e) f p q = absurd (e.0 f)

not_spent : (cs : List Clause) (w v : List Signed) (n m budget : ℕ) → Behind cs w v n m → first cs w ≡ None → first cs v ≢ None → n ≤ budget → m ≡ budget → ⊥
not_spent cs w v n m budget (inl e) f g l q = g (ap (first cs) e ∙ f)
not_spent cs w v n m budget (inr e) f g l q = absurd (omega (arith, e.1, l, q))

pub one_answer : (cs : List Clause) (budget : ℕ) (b : List Signed) (a c : ConAnswer) → IsAnswer cs budget b a → IsAnswer cs budget b c → a ≡ c
one_answer cs budget b (Closed n) (Closed m) h k = ap Closed (sym h.2 ∙ ap applications (done_same cs b h.0 k.0 h.1 k.1) ∙ k.2)
one_answer cs budget b (Closed n) (Open ms) h k = absurd (unfinished cs b k.1 h.0 k.0 h.1 k.2 k.4)
one_answer cs budget b (Closed n) Spent h k = absurd (omega (arith, fewer cs b k.1 h.0 k.0 h.1 k.2, k.3, h.2, h.3))
one_answer cs budget b (Open ls) (Closed m) h k = absurd (unfinished cs b h.1 k.0 h.0 k.1 h.2 h.4)
one_answer cs budget b (Open ls) (Open ms) h k = ap Open (same_open cs h.1 k.1 _ _ ls ms (behind cs b h.1 k.1 h.0 k.0 h.2 k.2 h.4) k.4 h.5 k.5)
one_answer cs budget b (Open ls) Spent h k = absurd (not_spent cs h.1 k.1 _ _ budget (behind cs b h.1 k.1 h.0 k.0 h.2 k.2 h.4) h.4 k.4 h.3 k.3)
one_answer cs budget b Spent (Closed m) h k = absurd (omega (arith, fewer cs b h.1 k.0 h.0 k.1 h.2, h.3, k.2, k.3))
one_answer cs budget b Spent (Open ms) h k = absurd (not_spent cs k.1 h.1 _ _ budget (behind cs b k.1 h.1 k.0 h.0 k.2 h.2 k.4) k.4 h.4 k.3 h.3)
one_answer cs budget b Spent Spent h k = refl
