-- The rules of Fitch proofs: when a sentence follows from what its line cites.
use Rattle.std.specs.Prelude.{◌≡◌, ℕ, zero, suc, ◌+◌, ◌<◌, false, IsTrue, List, [], ◌∷◌, Contains, Some, None, ◌⊎◌, IfSome}
use Rattle.std.specs.List.{AllByRecursion}
use Rattle.fol_core.specs.declared.sent.Sent.{Sent}
use Rattle.fol_core.specs.declared.sent.Sent.TheVariants.{Eq, Bottom, Not, And, Or, If, Iff, All, Ex}
use Rattle.fol_core.specs.declared.sent.Term.{Term}
use Rattle.fol_core.specs.Word.{Word}
use Rattle.fol_core.specs.Alike.{repl}
use Rattle.fol_core.specs.Statements.{ground}
use Rattle.fol_core.specs.Subst.{occurs, subst_name, subst_closed_term}
use Rattle.deriv_laws.specs.declared.rule.Rule.{Rule}
use Rattle.deriv_laws.specs.declared.rule.Rule.TheVariants as r
use Rattle.nested_proofs.specs.Scope.{Subproof}

-- The subproof goes from the assumption p to the conclusion q.
pub record Goes (b : Subproof) (p q : Sent) : Type 0 where
  pub from : b.hypothesis ≡ Some p
  pub to : b.conclusion ≡ Some q

-- The biconditional e has p and s as its sides, in either order.
abbrev pub IffFrom : Sent → Sent → Sent → Type 0
IffFrom e p s = (e ≡ Iff p s) ⊎ (e ≡ Iff s p)

-- The sentence e is an equation, and s is p with some occurrences of one of its terms replaced by the other. Where e is
-- a statement, both terms are ground.
pub record EqFrom (e p s : Sent) : Type 0 where
  pub a : Term
  pub b : Term
  pub equation : e ≡ Eq a b
  pub replaced : IsTrue (repl a b p s) ⊎ IsTrue (repl b a p s)

-- The sentence q is an instance of the universal sentence s by a ground term.
pub record AllInstance (s q : Sent) : Type 0 where
  pub x : Word
  pub p : Sent
  pub a : Term
  pub is_ground : IsTrue (ground a)
  pub whole : s ≡ All x p
  pub instance : q ≡ subst_closed_term x a p

-- The sentence q is an instance of the existential sentence s by a ground term.
pub record ExInstance (s q : Sent) : Type 0 where
  pub x : Word
  pub p : Sent
  pub a : Term
  pub is_ground : IsTrue (ground a)
  pub whole : s ≡ Ex x p
  pub instance : q ≡ subst_closed_term x a p

-- So many instances in a row lead from s to q.
abbrev pub InRow : (Sent → Sent → Type 0) → ℕ → Sent → Sent → Type 0
InRow R zero s q = s ≡ q
InRow R (suc n) s q = (m : Sent) × R s m × InRow R n m q

-- One to eight instances in a row lead from s to q.
abbrev pub OneToEight : (Sent → Sent → Type 0) → Sent → Sent → Type 0
OneToEight R s q = (n : ℕ) × (n < 8) × InRow R (n + 1) s q

-- What a subproof about the arbitrary object c shows of the matrix p: without an assumption it ends in
-- p with c for x; or p is a conditional, and it goes from the antecedent to the consequent with c for x.
abbrev pub Generalizes : Subproof → Word → Word → Sent → Type 0
Generalizes b c x p =
    ((b.hypothesis ≡ None) × (b.conclusion ≡ Some (subst_name x c p)))
    ⊎ ((q : Sent) × (r : Sent) × (p ≡ If q r) × Goes b (subst_name x c q) (subst_name x c r))

-- `Follows rule ps bs s`: by this rule s follows from the cited sentences ps and the cited subproofs bs.
-- The cites of a line may stand in any order.
abbrev pub Follows : Rule → List Sent → List Subproof → Sent → Type 0
-- the cited sentence itself
Follows r.Reit (p ∷ []) [] s = p ≡ s
-- a conjunction, each part of which is a cited sentence
Follows r.AndIntro ps [] s = (parts : List Sent) × (s ≡ And parts) × AllByRecursion (λ p. Contains ps p) parts
-- a part of the cited conjunction, or a conjunction of parts of it
Follows r.AndElim (p ∷ []) [] s = (parts : List Sent) × (p ≡ And parts) × (Contains parts s ⊎ ((some : List Sent) × (s ≡ And some) × AllByRecursion (λ q. Contains parts q) some))
-- a disjunction that has the cited sentence as a part
Follows r.OrIntro (p ∷ []) [] s = (parts : List Sent) × (s ≡ Or parts) × Contains parts p
-- what a cited subproof shows from each part of the cited disjunction
Follows r.OrElim (p ∷ []) bs s = (parts : List Sent) × (p ≡ Or parts) × AllByRecursion (λ q. (b : Subproof) × Contains bs b × Goes b q s) parts
-- the negation of an assumption that leads to absurdity
Follows r.NotIntro [] (b ∷ []) s = (p : Sent) × (s ≡ Not p) × Goes b p Bottom
-- what the cited sentence denies twice
Follows r.NotElim (p ∷ []) [] s = p ≡ Not (Not s)
-- absurdity, from a sentence and its negation
Follows r.BotIntro (p ∷ q ∷ []) [] s = (s ≡ Bottom) × ((q ≡ Not p) ⊎ (p ≡ Not q))
-- any sentence, from absurdity
Follows r.BotElim (p ∷ []) [] s = p ≡ Bottom
-- the conditional from a subproof's assumption to its conclusion
Follows r.IfIntro [] (b ∷ []) s = (p : Sent) × (q : Sent) × (s ≡ If p q) × Goes b p q
-- the consequent of a conditional whose antecedent is cited
Follows r.IfElim (p ∷ q ∷ []) [] s = (p ≡ If q s) ⊎ (q ≡ If p s)
-- the biconditional of two sentences, with a subproof from each to the other
Follows r.IffIntro [] (b ∷ c ∷ []) s = (p : Sent) × (q : Sent) × (s ≡ Iff p q) × ((Goes b p q × Goes c q p) ⊎ (Goes b q p × Goes c p q))
-- the other side of a biconditional one side of which is cited
Follows r.IffElim (p ∷ q ∷ []) [] s = IffFrom p q s ⊎ IffFrom q p s
-- that a term is equal to itself; where the sentence is a statement, the term is ground
Follows r.EqIntro [] [] s = (a : Term) × (s ≡ Eq a a)
-- a cited sentence, with some occurrences of a term replaced by one that is equal to it
Follows r.EqElim (p ∷ q ∷ []) [] s = EqFrom p q s ⊎ EqFrom q p s
-- that all objects are so, from a subproof about an arbitrary one
Follows r.AllIntro [] (b ∷ []) s = (c : Word) × (x : Word) × (p : Sent) × (b.boxed ≡ Some c) × (s ≡ All x p) × Generalizes b c x p
-- what one to eight universal instances in a row lead to
Follows r.AllElim (p ∷ []) [] s = OneToEight AllInstance p s
-- what has the cited sentence as one to eight existential instances in a row
Follows r.ExIntro (p ∷ []) [] s = OneToEight ExInstance s p
-- what a subproof shows from the arbitrary instance of the cited existential sentence
Follows r.ExElim (p ∷ []) (b ∷ []) s = (c : Word) × (x : Word) × (q : Sent) × (b.boxed ≡ Some c) × (p ≡ Ex x q) × Goes b (subst_name x c q) s
Follows _ _ _ _ = ⊥

-- The constant that the subproof boxes occurs in none of these sentences.
abbrev pub BoxStaysIn : Subproof → List Sent → Type 0
BoxStaysIn b ss = IfSome b.boxed (λ c. AllByRecursion (λ s. occurs c s ≡ false) ss)

-- Where there is one subproof, the constant that it boxes occurs in none of these sentences.
abbrev pub OneStaysIn : List Subproof → List Sent → Type 0
OneStaysIn [] ss = Unit {0}
OneStaysIn (b ∷ []) ss = BoxStaysIn b ss
OneStaysIn (b ∷ c ∷ bs) ss = Unit {0}

-- The second test of the two rules that need a boxed constant: it occurs in nothing that the line says
-- beside the subproof, which is its own sentence, and at existential elimination the cited sentence.
-- The other rules box nothing.
abbrev pub StaysArbitrary : Rule → List Sent → List Subproof → Sent → Type 0
StaysArbitrary r.Premise ps bs s = Unit {0}
StaysArbitrary r.Assume ps bs s = Unit {0}
StaysArbitrary r.BoxOnly ps bs s = Unit {0}
StaysArbitrary r.Reit ps bs s = Unit {0}
StaysArbitrary r.AndIntro ps bs s = Unit {0}
StaysArbitrary r.AndElim ps bs s = Unit {0}
StaysArbitrary r.OrIntro ps bs s = Unit {0}
StaysArbitrary r.OrElim ps bs s = Unit {0}
StaysArbitrary r.NotIntro ps bs s = Unit {0}
StaysArbitrary r.NotElim ps bs s = Unit {0}
StaysArbitrary r.BotIntro ps bs s = Unit {0}
StaysArbitrary r.BotElim ps bs s = Unit {0}
StaysArbitrary r.IfIntro ps bs s = Unit {0}
StaysArbitrary r.IfElim ps bs s = Unit {0}
StaysArbitrary r.IffIntro ps bs s = Unit {0}
StaysArbitrary r.IffElim ps bs s = Unit {0}
StaysArbitrary r.EqIntro ps bs s = Unit {0}
StaysArbitrary r.EqElim ps bs s = Unit {0}
StaysArbitrary r.AllIntro ps bs s = OneStaysIn bs (s ∷ [])
StaysArbitrary r.AllElim ps bs s = Unit {0}
StaysArbitrary r.ExIntro ps bs s = Unit {0}
StaysArbitrary r.ExElim ps bs s = OneStaysIn bs (s ∷ ps)
StaysArbitrary r.TautCon ps bs s = Unit {0}
StaysArbitrary r.FoCon ps bs s = Unit {0}
StaysArbitrary r.AnaCon ps bs s = Unit {0}
