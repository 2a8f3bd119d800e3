-- A closed tree's root is refuted.
use Rattle.std.proofs.Common.{◌≡◌, List, [], ◌∷◌, ◌++◌, map, sym, ◌∙◌, subst, Bool, true, false, IsTrue, inl, inr, ◌⊎◌, Some}
use Rattle.std.specs.Prelude.{if◌then◌else◌}
use Rattle.std.specs.List.{AllByRecursion}
use Rattle.fol_core.specs.declared.sent.Sent.{Sent}
use Rattle.fol_core.specs.declared.sent.Sent.TheVariants.{Bottom, Not}
use Rattle.fol_core.specs.Word.{Word}
use Rattle.fol_core.specs.Statements.{statement, AreStatements}
use Rattle.fol_core.proofs.Stating.{stated_not}
use Rattle.deriv_laws.specs.Eigen.{AreWithout}
use Rattle.deriv_laws.specs.Derivable.{Der}
use Rattle.tableau_laws.specs.declared.literal.Literal.{Literal as Signed}
use Rattle.tableau_laws.specs.Branch.{held, denied, said, stands, new_of}
use Rattle.tableau_laws.specs.Choice.{Choice, is_applicable, added}
use Rattle.tableau_laws.specs.Clauses.{Clause}
use Rattle.tableau_laws.specs.Choices.{choices, first}
use Rattle.tableau_laws.specs.Tableau.{Tableau, Grove, leaf, inner, none, more, IsDone, AreDone, start}
use Rattle.tableau_laws.specs.Refuted.{Refuted, GiveInstances}
use Rattle.tableau_laws.proofs.Lists.{Elem, all_at, all_each, all_both, elem_left, elem_right, elem_split}
use Rattle.tableau_laws.proofs.Finding.{found_in}
use Rattle.tableau_laws.proofs.Refuting.{weaken, reductio}
use Rattle.tableau_laws.proofs.Sound.{Branches, Sound}
use Rattle.tableau_laws.proofs.ClassSound.{HasInstances, closed_refuted, choices_sound}

-- a branch beside the one before it

new_at : (b ls : List Signed) (l : Signed) (s : Sent) → ((b : List Signed) → Elem (map said (new_of b ls)) s → Elem (map said ls) s) → (t : Bool) →
    Elem (map said (if t then new_of b ls else l ∷ new_of (b ++ l ∷ []) ls)) s → Elem (map said (l ∷ ls)) s
new_at b ls l s r true h = inr (r b h)
new_at b ls l s r false (inl e) = inl e
new_at b ls l s r false (inr h) = inr (r (b ++ l ∷ []) h)

new_among : (ls : List Signed) (s : Sent) (b : List Signed) → Elem (map said (new_of b ls)) s → Elem (map said ls) s
new_among [] s b h = absurd h
new_among (l ∷ ls) s b h = new_at b ls l s (new_among ls s) (stands b l) h

pub said_split : (b n : List Signed) (s : Sent) → Elem (map said (b ++ n)) s → Elem (map said b) s ⊎ Elem (map said n) s
said_split [] n s h = inr h
said_split (l ∷ b) n s (inl e) = inl (inl e)
said_split (l ∷ b) n s (inr h) = elim (said_split b n s h) [ inl a ↦ inl (inr a) | inr a ↦ inr a ]

from_child : (ax : List Sent) (b ls : List Signed) (s : Sent) → Elem (map said (b ++ new_of b ls) ++ ax) s → Elem (map said ls ++ (map said b ++ ax)) s
from_child ax b ls s h = elim (elem_split (map said (b ++ new_of b ls)) ax s h) [
  | inl p ↦ elim (said_split b (new_of b ls) s p) [
    | inl q ↦ elem_right (map said ls) (map said b ++ ax) s (elem_left (map said b) ax s q)
    | inr q ↦ elem_left (map said ls) (map said b ++ ax) s (new_among ls s b q)
  ]
  | inr p ↦ elem_right (map said ls) (map said b ++ ax) s (elem_right (map said b) ax s p)
]

child_stated : (ax : List Sent) (b ls : List Signed) → AreStatements (map said b ++ ax) → AreStatements (map said ls) → AreStatements (map said (b ++ new_of b ls) ++ ax)
child_stated ax b ls k i = all_each (λ s. IsTrue (statement s)) (map said (b ++ new_of b ls) ++ ax) (λ s h.
    all_at (λ z. IsTrue (statement z)) (map said ls ++ (map said b ++ ax)) s (all_both (λ z. IsTrue (statement z)) (map said ls) (map said b ++ ax) i k) (from_child ax b ls s h))

children_stated : (ax : List Sent) (b : List Signed) (lss : List (List Signed)) → AreStatements (map said b ++ ax) → AllByRecursion (λ ls. AreStatements (map said ls)) lss → AllByRecursion (λ new. AreStatements (map said (b ++ new) ++ ax)) (map (new_of b) lss)
children_stated ax b [] k i = tt
children_stated ax b (ls ∷ lss) k i = (child_stated ax b ls k i.0, children_stated ax b lss k i.1)

children_refuted : (ax : List Sent) (b : List Signed) (lss : List (List Signed)) → AllByRecursion (λ new. Refuted ax (b ++ new)) (map (new_of b) lss) → Branches (map said b ++ ax) lss
children_refuted ax b [] h = tt
children_refuted ax b (ls ∷ lss) h = (weaken (map said (b ++ new_of b ls) ++ ax) (map said ls ++ (map said b ++ ax)) Bottom (from_child ax b ls) h.0, children_refuted ax b lss h.1)

pub first_sound : (cs : List Clause) (ax : List Sent) (b : List Signed) (o : Choice) → AreStatements (map said b ++ ax) → ((n : Word) → AreWithout n ax) → HasInstances (map said b ++ ax) cs b → first cs b ≡ Some o → Sound (map said b ++ ax) o
unfolding first
first_sound cs ax b o k w i e = all_at (Sound (map said b ++ ax)) (choices cs b) o (choices_sound cs ax b k w i) (found_in (is_applicable b) (choices cs b) o e)

mutual
  pub done_refuted : (cs : List Clause) (ax : List Sent) → ((n : Word) → AreWithout n ax) → GiveInstances ax cs → (b : List Signed) (t : Tableau) → AreStatements (map said b ++ ax) → IsDone cs b t → Refuted ax b
  done_refuted cs ax w g b leaf k h = closed_refuted cs ax b k (g b k) h
  done_refuted cs ax w g b (inner gr) k h =
      let o : Choice = h.1.0 in
      let s : Sound (map said b ++ ax) o = first_sound cs ax b o k w (g b k) h.1.1 in
      s.refutes (children_refuted ax b o.adds (grove_refuted cs ax w g b (added b o) gr (children_stated ax b o.adds k s.stated) h.1.2))

  grove_refuted : (cs : List Clause) (ax : List Sent) → ((n : Word) → AreWithout n ax) → GiveInstances ax cs → (b : List Signed) (news : List (List Signed)) (gr : Grove) → AllByRecursion (λ new. AreStatements (map said (b ++ new) ++ ax)) news → AreDone cs b news gr → AllByRecursion (λ new. Refuted ax (b ++ new)) news
  grove_refuted cs ax w g b [] none k h = tt
  grove_refuted cs ax w g b [] (more ls t gr) k h = absurd h
  grove_refuted cs ax w g b (new ∷ news) none k h = absurd h
  grove_refuted cs ax w g b (new ∷ news) (more ls t gr) k h =
      let here : Refuted ax (b ++ ls) = done_refuted cs ax w g (b ++ ls) t (subst (λ z. AreStatements (map said (b ++ z) ++ ax)) (sym h.0) k.0) h.1 in
      (subst (λ z. Refuted ax (b ++ z)) h.0 here, grove_refuted cs ax w g b news gr k.1 h.2)

start_among : (ps : List Sent) (goal : Sent) (ax : List Sent) (s : Sent) → Elem (map said (start ps goal) ++ ax) s → Elem (Not goal ∷ ps ++ ax) s
start_among ps goal ax s h = elim (elem_split (map said (start ps goal)) ax s h) [
  | inl p ↦ by ps (new_among (map held ps ++ denied goal ∷ []) s [] p)
  | inr p ↦ inr (elem_right ps ax s p)
]
  where
    moved : (qs : List Sent) (p : Sent) → Elem (Not goal ∷ qs ++ ax) s → Elem (Not goal ∷ (p ∷ qs) ++ ax) s
    moved qs p (inl e) = inl e
    moved qs p (inr h) = inr (inr h)

    by : (qs : List Sent) → Elem (map said (map held qs ++ denied goal ∷ [])) s → Elem (Not goal ∷ qs ++ ax) s
    by [] (inl e) = inl e
    by [] (inr h) = absurd h
    by (p ∷ qs) (inl e) = inr (inl e)
    by (p ∷ qs) (inr h) = moved qs p (by qs h)

-- from a closed tree, the goal
pub tableau_derives : (cs : List Clause) (ax ps : List Sent) (goal : Sent) → ((n : Word) → AreWithout n ax) → GiveInstances ax cs → AreStatements ax → AreStatements ps → IsTrue (statement goal) → (t : Tableau) → IsDone cs (start ps goal) t → Der (ps ++ ax) goal
tableau_derives cs ax ps goal w g ka kp kg t h =
    let all : AreStatements (Not goal ∷ ps ++ ax) = (stated_not goal [] ∙ kg, all_both (λ z. IsTrue (statement z)) ps ax kp ka) in
    let k : AreStatements (map said (start ps goal) ++ ax) = all_each (λ s. IsTrue (statement s)) (map said (start ps goal) ++ ax) (λ s m. all_at (λ z. IsTrue (statement z)) (Not goal ∷ ps ++ ax) s all (start_among ps goal ax s m)) in
    reductio (ps ++ ax) goal kg (weaken (map said (start ps goal) ++ ax) (Not goal ∷ ps ++ ax) Bottom (start_among ps goal ax) (done_refuted cs ax w g (start ps goal) t k h))
