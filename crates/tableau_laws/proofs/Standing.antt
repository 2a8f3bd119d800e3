-- What stands on a branch.
use Rattle.std.proofs.Common.{◌≡◌, List, [], ◌∷◌, map, refl, ap₂, sym, Bool, true, false, inl, inr, true≢false}
use Rattle.std.specs.Prelude.{◌&&◌}
use Rattle.std.proofs.lemmas.Bool.{and_parts}
use Rattle.fol_core.proofs.Equality.{alike_same}
use Rattle.deriv_laws.specs.Discharge.{alike}
use Rattle.tableau_laws.specs.declared.literal.Literal.{Literal as Signed}
use Rattle.tableau_laws.specs.Branch.{said, said_as, stands, same_sign}
use Rattle.tableau_laws.proofs.Choosing.{or_cases}
use Rattle.tableau_laws.proofs.Lists.{Elem}

sign_same : (a b : Bool) → same_sign a b ≡ true → a ≡ b
sign_same true true h = refl
sign_same false false h = refl
sign_same true false h = absurd (true≢false (sym h))
sign_same false true h = absurd (true≢false (sym h))

-- What stands on a branch is said there.
pub stands_said : (b : List Signed) (l : Signed) → stands b l ≡ true → Elem (map said b) (said l)
stands_said [] l h = absurd (true≢false (sym h))
stands_said (k ∷ ks) l h = elim (or_cases (same_sign k.holds l.holds && alike k.sentence l.sentence) (stands ks l) h) [
  | inl e ↦ (let w = and_parts (same_sign k.holds l.holds) (alike k.sentence l.sentence) e in inl (ap₂ said_as (sign_same k.holds l.holds w.0) (alike_same k.sentence l.sentence w.1)))
  | inr e ↦ inr (stands_said ks l e)
]
