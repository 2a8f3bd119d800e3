-- Laws of derivability for identity and the quantifiers.
use Rattle.std.specs.Prelude.{◌≡◌, false, IsTrue, List, ◌∷◌, ◌⊎◌}
use Rattle.fol_core.specs.declared.sent.Term.{Term}
use Rattle.fol_core.specs.declared.sent.Sent.{Sent}
use Rattle.fol_core.specs.declared.sent.Sent.TheVariants.{Eq, All, Ex}
use Rattle.fol_core.specs.Word.{Word}
use Rattle.fol_core.specs.Statements.{statement, ground}
use Rattle.fol_core.specs.Subst.{occurs, subst_name, subst_closed_term}
use Rattle.fol_core.specs.Alike.{repl}
use Rattle.deriv_laws.specs.Eigen.{AreWithout}
use Rattle.deriv_laws.specs.Derivable.{Der}

-- Reflexivity of identity: each ground term is derivably equal to itself.
abbrev pub SelfIdentityLaw : Type 0
SelfIdentityLaw = (gs : List Sent) (a : Term) → IsTrue (ground a) → Der gs (Eq a a)

-- Indiscernibility of identicals: an equation lets some occurrences of either of its terms be replaced by the other.
abbrev pub ReplacementLaw : Type 0
ReplacementLaw = (gs : List Sent) (a b : Term) (p s : Sent) → Der gs (Eq a b) → Der gs p → IsTrue (repl a b p s) ⊎ IsTrue (repl b a p s) → IsTrue (statement s) → Der gs s

-- Universal instantiation: what holds of everything holds of each ground term.
abbrev pub InstantiationLaw : Type 0
InstantiationLaw = (gs : List Sent) (x : Word) (a : Term) (p : Sent) → IsTrue (ground a) → Der gs (All x p) → Der gs (subst_closed_term x a p)

-- Universal generalization: what is derivable of a constant that occurs in nothing given, and not in the matrix, holds of everything.
abbrev pub GeneralizationLaw : Type 0
GeneralizationLaw = (gs : List Sent) (c x : Word) (p : Sent) → AreWithout c gs → Der gs (subst_name x c p) → IsTrue (statement (All x p)) → occurs c (All x p) ≡ false → Der gs (All x p)

-- Existential generalization: what holds of a ground term holds of something.
abbrev pub WitnessLaw : Type 0
WitnessLaw = (gs : List Sent) (x : Word) (a : Term) (p : Sent) → IsTrue (ground a) → Der gs (subst_closed_term x a p) → IsTrue (statement (Ex x p)) → Der gs (Ex x p)

-- Existential instantiation: what is derivable from an arbitrary instance of a derivable existential sentence is
-- derivable, where the constant occurs in nothing given, not in the existential sentence and not in the conclusion.
abbrev pub ArbitraryInstanceLaw : Type 0
ArbitraryInstanceLaw = (gs : List Sent) (c x : Word) (p s : Sent) → AreWithout c gs → Der gs (Ex x p) → Der (subst_name x c p ∷ gs) s → occurs c (Ex x p) ≡ false → occurs c s ≡ false → Der gs s
