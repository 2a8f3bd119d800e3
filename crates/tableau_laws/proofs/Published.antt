-- The laws as they are published: over the branches that an application makes, and with no clauses.
use Rattle.std.proofs.Common.{List, [], ◌∷◌, ◌++◌, map, inl, inr}
use Rattle.std.specs.List.{AllByRecursion}
use Rattle.fol_core.specs.declared.sent.Sent.{Sent}
use Rattle.fol_core.specs.declared.sent.Sent.TheVariants.{Bottom}
use Rattle.tableau_laws.specs.declared.literal.Literal.{Literal as Signed}
use Rattle.tableau_laws.specs.Branch.{said}
use Rattle.tableau_laws.specs.Choice.{Choice}
use Rattle.tableau_laws.specs.Refuted.{given_on, Refuted, AreSound}
use Rattle.tableau_laws.specs.Laws.{ClosedLaw, ClosedWithAxiomsLaw}
use Rattle.tableau_laws.specs.ClassLaws as law
use Rattle.tableau_laws.proofs.Lists.{Elem, elem_left, elem_right, elem_split}
use Rattle.tableau_laws.proofs.Refuting.{weaken}
use Rattle.tableau_laws.proofs.Sound.{Branches, AllSound}
use Rattle.tableau_laws.proofs.ClassSound as c
use Rattle.tableau_laws.proofs.Refutation.{said_split, tableau_derives}

moved : (ax : List Sent) (b ls : List Signed) (s : Sent) → Elem (given_on ax (b ++ ls)) s → Elem (map said ls ++ given_on ax b) s
moved ax b ls s h = elim (elem_split (map said (b ++ ls)) ax s h) [
  | inl p ↦ elim (said_split b ls s p) [
    | inl q ↦ elem_right (map said ls) (given_on ax b) s (elem_left (map said b) ax s q)
    | inr q ↦ elem_left (map said ls) (given_on ax b) s q
  ]
  | inr p ↦ elem_right (map said ls) (given_on ax b) s (elem_right (map said b) ax s p)
]

branches : (ax : List Sent) (b : List Signed) (lss : List (List Signed)) → AllByRecursion (λ ls. Refuted ax (b ++ ls)) lss → Branches (given_on ax b) lss
branches ax b [] h = tt
branches ax b (ls ∷ lss) h = (weaken (given_on ax (b ++ ls)) (map said ls ++ given_on ax b) Bottom (moved ax b ls) h.0, branches ax b lss h.1)

published : (ax : List Sent) (b : List Signed) (os : List Choice) → AllSound (given_on ax b) os → AreSound ax b os
published ax b [] h = tt
published ax b (o ∷ os) h = (record { stated = h.0.stated; refutes = λ d. h.0.refutes (branches ax b o.adds d) }, published ax b os h.1)

pub closing : law.ClosingLaw
closing ax cs g b k e = c.closed_refuted cs ax b k (g b k) e

pub single : law.SingleLaw
single ax b k = published ax b _ (c.singles_sound ax b k)

pub equation : law.EquationLaw
equation ax b k = published ax b _ (c.equations_sound ax b k)

pub unit : law.UnitLaw
unit ax cs g b k = published ax b _ (c.units_sound cs ax b k (g b k))

pub witnesses : law.WitnessesLaw
witnesses ax w b k = published ax b _ (c.witnesses_sound ax w b k)

pub several : law.SeveralLaw
several ax b k = published ax b _ (c.severals_sound ax b k)

pub universal : law.UniversalLaw
universal ax b k t g = published ax b _ (c.universals_sound ax b k t g)

pub split : law.SplitLaw
split ax cs g b k = published ax b _ (c.splits_sound cs ax b k (g b k))

pub closed_with_axioms : ClosedWithAxiomsLaw
closed_with_axioms cs ax w ka g ps goal kp kg t h = tableau_derives cs ax ps goal w g ka kp kg t h

pub closed : ClosedLaw
closed ps goal kp kg t h =
    weaken (ps ++ []) ps goal (λ s m. elim (elem_split ps [] s m) [ inl a ↦ a | inr b ↦ absurd b ])
    (tableau_derives [] [] ps goal (λ n. tt) (λ b k. tt) tt kp kg t h)
