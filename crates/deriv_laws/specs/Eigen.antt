-- The eigenconstant condition: a boxed constant stands for an arbitrary object.
use Rattle.std.specs.Prelude.{◌≡◌, false, List, [], ◌∷◌, Option, Some}
use Rattle.std.specs.List.{AllByRecursion}
use Rattle.fol_core.specs.declared.sent.Sent.{Sent}
use Rattle.fol_core.specs.Word.{Word}
use Rattle.fol_core.specs.Subst.{occurs}
use Rattle.deriv_laws.specs.declared.rule.Rule.{Rule}
use Rattle.deriv_laws.specs.declared.rule.Rule.TheVariants as r
use Rattle.deriv_laws.specs.Discharge.{instance_of_ex, without}

-- The constant occurs in none of the sentences.
abbrev pub AreWithout : Word → List Sent → Type 0
AreWithout c ss = AllByRecursion (λ s. occurs c s ≡ false) ss

-- `IsEigen rule box ps os s`, for a node that concludes s from ps, where os is open in its parts.
abbrev pub IsEigen : Rule → Option Word → List Sent → List (List Sent) → Sent → Type 0
-- Universal introduction: the constant occurs in no open assumption of the part, and not in the
-- universal sentence.
IsEigen r.AllIntro (Some c) qs (o ∷ []) s = AreWithout c o × (occurs c s ≡ false)
-- Existential elimination: the constant occurs in no open assumption of the second part other than
-- the instance, not in the conclusion, and not in the existential sentence.
IsEigen r.ExElim (Some c) (q ∷ t ∷ []) (o ∷ o' ∷ []) s = AreWithout c (without (instance_of_ex c q) o') × (occurs c s ≡ false) × (occurs c q ≡ false)
-- The other rules ask nothing.
IsEigen _ _ _ _ _ = Unit {0}
