-- Induction over a sentence, with a case a form.
use Rattle.std.proofs.Common.{◌≡◌, List, [], ◌∷◌, map, subst, rules}
use Rattle.std.specs.List.{AllByRecursion}
use Rattle.fol_core.specs.declared.sent.Term.{Term}
use Rattle.fol_core.specs.declared.sent.Sent.{Sent, roll-Sent, the_lemmas}
use Rattle.fol_core.specs.declared.sent.Sent.TheOpen.{Sent-F}
use Rattle.fol_core.specs.declared.sent.Sent.TheOpen as f
use Rattle.fol_core.specs.declared.sent.Sent.TheVariants as s
use Rattle.fol_core.specs.declared.sent.Sent.TheFolds.{ind-Sent, map-Sent}
use Rattle.fol_core.specs.Word.{Word}

rolls_atom : (p : Word) (ts : List Term) → s.Atom p ts ≡ roll-Sent (f.Atom p ts)
rolls_atom p ts = search (rules, the_lemmas)

rolls_eq : (a b : Term) → s.Eq a b ≡ roll-Sent (f.Eq a b)
rolls_eq a b = search (rules, the_lemmas)

rolls_bottom : s.Bottom ≡ roll-Sent f.Bottom
rolls_bottom = search (rules, the_lemmas)

rolls_not : (p : Sent) → s.Not p ≡ roll-Sent (f.Not p)
rolls_not p = search (rules, the_lemmas)

rolls_and : (ps : List Sent) → s.And ps ≡ roll-Sent (f.And ps)
rolls_and ps = search (rules, the_lemmas)

rolls_or : (ps : List Sent) → s.Or ps ≡ roll-Sent (f.Or ps)
rolls_or ps = search (rules, the_lemmas)

rolls_if : (p q : Sent) → s.If p q ≡ roll-Sent (f.If p q)
rolls_if p q = search (rules, the_lemmas)

rolls_iff : (p q : Sent) → s.Iff p q ≡ roll-Sent (f.Iff p q)
rolls_iff p q = search (rules, the_lemmas)

rolls_all : (x : Word) (p : Sent) → s.All x p ≡ roll-Sent (f.All x p)
rolls_all x p = search (rules, the_lemmas)

rolls_ex : (x : Word) (p : Sent) → s.Ex x p ≡ roll-Sent (f.Ex x p)
rolls_ex x p = search (rules, the_lemmas)

-- A step for each form: the property holds of it where it holds of its parts.
pub record Steps (P : Sent → Type 0) : Type 0 where
  pub atom : (p : Word) (ts : List Term) → P (s.Atom p ts)
  pub equation : (a b : Term) → P (s.Eq a b)
  pub bottom : P s.Bottom
  pub negation : (p : Sent) → P p → P (s.Not p)
  pub conjunction : (ps : List Sent) → AllByRecursion P ps → P (s.And ps)
  pub disjunction : (ps : List Sent) → AllByRecursion P ps → P (s.Or ps)
  pub conditional : (p q : Sent) → P p → P q → P (s.If p q)
  pub biconditional : (p q : Sent) → P p → P q → P (s.Iff p q)
  pub universal : (x : Word) (p : Sent) → P p → P (s.All x p)
  pub existential : (x : Word) (p : Sent) → P p → P (s.Ex x p)

abbrev Held : (Sent → Type 0) → Type 0
Held P = (p : Sent) × P p

abbrev bare : (P : Sent → Type 0) → Sent-F (Held P) → Sent-F Sent
bare P = map-Sent (Held P) Sent (λ e. e.0)

each_held : (P : Sent → Type 0) (es : List (Held P)) → AllByRecursion P (map (λ (e : Held P). e.0) es)
each_held P [] = tt
each_held P (e ∷ es) = (e.1, each_held P es)

step : (P : Sent → Type 0) → Steps P → (y : Sent-F (Held P)) → P (roll-Sent (bare P y))
step P h (f.Atom p ts) = subst P (rolls_atom p ts) (h.atom p ts)
step P h (f.Eq a b) = subst P (rolls_eq a b) (h.equation a b)
step P h f.Bottom = subst P rolls_bottom h.bottom
step P h (f.Not e) = subst P (rolls_not e.0) (h.negation e.0 e.1)
step P h (f.And es) = subst P (rolls_and (map (λ (e : Held P). e.0) es)) (h.conjunction (map (λ (e : Held P). e.0) es) (each_held P es))
step P h (f.Or es) = subst P (rolls_or (map (λ (e : Held P). e.0) es)) (h.disjunction (map (λ (e : Held P). e.0) es) (each_held P es))
step P h (f.If d e) = subst P (rolls_if d.0 e.0) (h.conditional d.0 e.0 d.1 e.1)
step P h (f.Iff d e) = subst P (rolls_iff d.0 e.0) (h.biconditional d.0 e.0 d.1 e.1)
step P h (f.All x e) = subst P (rolls_all x e.0) (h.universal x e.0 e.1)
step P h (f.Ex x e) = subst P (rolls_ex x e.0) (h.existential x e.0 e.1)

pub by_form : (P : Sent → Type 0) → Steps P → (p : Sent) → P p
by_form P h = ind-Sent P (λ l y is. subst (λ (w : Sent-F Sent). P (roll-Sent w)) is (step P h y))
