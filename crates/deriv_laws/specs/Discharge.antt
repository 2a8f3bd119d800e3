-- Discharge: which assumptions a node closes in each of its parts.
use Rattle.std.specs.Prelude.{Bool, not, List, [], ◌∷◌, ◌++◌, map, filter, Option, Some}
use Rattle.std.specs.List.{list_any}
use Rattle.fol_core.specs.declared.sent.Term.TheVariants.{Name}
use Rattle.fol_core.specs.declared.sent.Sent.{Sent, out-Sent}
use Rattle.fol_core.specs.declared.sent.Sent.TheOpen as f
use Rattle.fol_core.specs.Word.{Word}
use Rattle.fol_core.specs.Subst.{subst_name}
use Rattle.fol_core.specs.Alike.{repl}
use Rattle.deriv_laws.specs.declared.rule.Rule.{Rule}
use Rattle.deriv_laws.specs.declared.rule.Rule.TheVariants as r

-- The sentence under a negation, alone; nothing where the sentence is no negation.
abbrev pub under_not : Sent → List Sent
under_not s = elim (out-Sent s) [ f.Not p ↦ p ∷ [] | _ ↦ [] ]

-- The antecedent of a conditional, alone; nothing where the sentence is no conditional.
abbrev pub before_if : Sent → List Sent
before_if s = elim (out-Sent s) [ f.If p q ↦ p ∷ [] | _ ↦ [] ]

-- The left and the right side of a biconditional; nothing where the sentence is none.
abbrev pub sides_of_iff : Sent → List Sent
sides_of_iff s = elim (out-Sent s) [ f.Iff p q ↦ p ∷ q ∷ [] | _ ↦ [] ]

-- The parts of a disjunction; nothing where the sentence is none.
abbrev pub parts_of_or : Sent → List Sent
parts_of_or s = elim (out-Sent s) [ f.Or parts ↦ parts | _ ↦ [] ]

-- The instance of an existential sentence with this constant, alone; nothing where the sentence is none.
abbrev pub instance_of_ex : Word → Sent → List Sent
instance_of_ex c s = elim (out-Sent s) [ f.Ex x p ↦ subst_name x c p ∷ [] | _ ↦ [] ]

-- `discharged rule box ps s`: what a node that concludes s from ps discharges, a list for each part
-- in order; past the end of the list nothing is discharged. It is fixed by the rule and the
-- sentences, also where the node breaks its rule by a box or a part too many.
abbrev pub discharged : Rule → Option Word → List Sent → Sent → List (List Sent)
-- proof by cases: in the part for each case, this case
discharged r.OrElim b (p ∷ qs) s = [] ∷ map (λ q. q ∷ []) (parts_of_or p)
-- proof by contradiction: what is denied
discharged r.NotIntro b ps s = map (λ q. under_not s) ps
-- conditional proof: the antecedent
discharged r.IfIntro b ps s = map (λ q. before_if s) ps
-- from the left side to the right the left side, and from the right to the left the right
discharged r.IffIntro b ps s = map (λ q. q ∷ []) (sides_of_iff s)
-- in the second part: the instance with the boxed constant
discharged r.ExElim (Some c) (p ∷ ps) s = [] ∷ instance_of_ex c p ∷ []
discharged _ _ _ _ = []

-- Whether two sentences are one sentence: alike at every place, with no term replaced by another.
abbrev pub alike : Sent → Sent → Bool
alike = repl (Name []) (Name [])

-- The sentences ss in order, without every occurrence of a discharged one.
abbrev pub without : List Sent → List Sent → List Sent
without ds ss = filter (λ s. not (list_any (λ d. alike d s) ds)) ss

-- What is left open: the lists of the parts joined from left to right, each without what is
-- discharged in it.
abbrev pub joined : List (List Sent) → List (List Sent) → List Sent
joined [] ds = []
joined (o ∷ os) [] = o ++ joined os []
joined (o ∷ os) (d ∷ ds) = without d o ++ joined os ds
