-- The inference rules of natural deduction: what a node concludes from what its parts conclude.
use Rattle.std.specs.Prelude.{◌≡◌, IsTrue, List, [], ◌∷◌, length, replicate, Contains, Option, Some, None, ◌⊎◌}
use Rattle.fol_core.specs.declared.sent.Term.{Term}
use Rattle.fol_core.specs.declared.sent.Sent.{Sent}
use Rattle.fol_core.specs.declared.sent.Sent.TheVariants.{Eq, Bottom, Not, And, Or, If, Iff, All, Ex}
use Rattle.fol_core.specs.Word.{Word}
use Rattle.fol_core.specs.Subst.{subst_name, subst_closed_term}
use Rattle.fol_core.specs.Statements.{ground}
use Rattle.fol_core.specs.Alike.{repl}
use Rattle.deriv_laws.specs.declared.rule.Rule.{Rule}
use Rattle.deriv_laws.specs.declared.rule.Rule.TheVariants as r

-- `Row rule box ps s`: by this rule, with this boxed constant or none, a node may conclude s where
-- its parts conclude ps, in this order. No other rule, box or number of parts is allowed.
abbrev pub Row : Rule → Option Word → List Sent → Sent → Type 0
-- an assumption stands on nothing
Row r.Assume None [] s = Unit {0}
-- the parts of a conjunction, in order, give the conjunction
Row r.AndIntro None ps s = s ≡ And ps
-- a conjunction gives each of its parts
Row r.AndElim None (p ∷ []) s = (parts : List Sent) × (p ≡ And parts) × Contains parts s
-- each part of a disjunction gives the disjunction
Row r.OrIntro None (p ∷ []) s = (parts : List Sent) × (s ≡ Or parts) × Contains parts p
-- a disjunction, and the same conclusion once for each of its parts, give this conclusion
Row r.OrElim None (p ∷ qs) s = (parts : List Sent) × (p ≡ Or parts) × (qs ≡ replicate (length parts) s)
-- absurdity gives a negation
Row r.NotIntro None (q ∷ []) s = (p : Sent) × (s ≡ Not p) × (q ≡ Bottom)
-- a double negation gives what it denies twice
Row r.NotElim None (p ∷ []) s = p ≡ Not (Not s)
-- a sentence and its negation give absurdity
Row r.BotIntro None (p ∷ q ∷ []) s = (q ≡ Not p) × (s ≡ Bottom)
-- absurdity gives everything
Row r.BotElim None (p ∷ []) s = p ≡ Bottom
-- the consequent gives the conditional
Row r.IfIntro None (q ∷ []) s = (p : Sent) × (s ≡ If p q)
-- a conditional and its antecedent give the consequent
Row r.IfElim None (q ∷ p ∷ []) s = q ≡ If p s
-- the right side, and then the left side, give the biconditional
Row r.IffIntro None (q ∷ p ∷ []) s = s ≡ Iff p q
-- a biconditional and one of its sides give the other side
Row r.IffElim None (q ∷ p ∷ []) s = (q ≡ Iff p s) ⊎ (q ≡ Iff s p)
-- each ground term is equal to itself; that it is ground follows from the sentence's being a statement
Row r.EqIntro None [] s = (a : Term) × (s ≡ Eq a a)
-- an equation lets some occurrences of either of its terms be replaced by the other
Row r.EqElim None (e ∷ p ∷ []) s = (a : Term) × (b : Term) × (e ≡ Eq a b) × (IsTrue (repl a b p s) ⊎ IsTrue (repl b a p s))
-- the instance with the boxed constant gives the universal sentence
Row r.AllIntro (Some c) (q ∷ []) s = (x : Word) × (p : Sent) × (s ≡ All x p) × (q ≡ subst_name x c p)
-- a universal sentence gives each of its instances with a ground term
Row r.AllElim None (q ∷ []) s = (x : Word) × (p : Sent) × (a : Term) × IsTrue (ground a) × (q ≡ All x p) × (s ≡ subst_closed_term x a p)
-- an instance with a ground term gives the existential sentence
Row r.ExIntro None (q ∷ []) s = (x : Word) × (p : Sent) × (a : Term) × IsTrue (ground a) × (s ≡ Ex x p) × (q ≡ subst_closed_term x a p)
-- an existential sentence, and a conclusion from its instance with the boxed constant, give this conclusion
Row r.ExElim (Some c) (q ∷ t ∷ []) s = (x : Word) × (p : Sent) × (q ≡ Ex x p) × (t ≡ s)
Row _ _ _ _ = ⊥
