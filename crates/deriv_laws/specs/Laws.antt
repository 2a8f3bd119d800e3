-- Laws of derivability that the steps of a proof go by.
use Rattle.std.specs.Prelude.{IsTrue, List, Contains}
use Rattle.std.specs.List.{AllByRecursion}
use Rattle.fol_core.specs.declared.sent.Sent.{Sent}
use Rattle.fol_core.specs.declared.sent.Sent.TheVariants.{And}
use Rattle.fol_core.specs.Statements.{statement}
use Rattle.deriv_laws.specs.Derivable.{Der}

-- Reflexivity: a statement is derivable wherever it is among what is given.
abbrev pub AssumptionLaw : Type 0
AssumptionLaw = (gs : List Sent) (s : Sent) → Contains gs s → IsTrue (statement s) → Der gs s

-- Weakening: what is derivable stays so where more is given, in any order and any number of times.
abbrev pub WeakeningLaw : Type 0
WeakeningLaw = (gs hs : List Sent) (s : Sent) → ((x : Sent) → Contains gs x → Contains hs x) → Der gs s → Der hs s

-- Adjunction: where each part is derivable, so is the conjunction of them, if it is a statement.
abbrev pub ConjunctionLaw : Type 0
ConjunctionLaw = (gs ps : List Sent) → AllByRecursion (λ p. Der gs p) ps → IsTrue (statement (And ps)) → Der gs (And ps)

-- Simplification: where a conjunction is derivable, so is each of its parts that is a statement.
abbrev pub PartLaw : Type 0
PartLaw = (gs parts : List Sent) (s : Sent) → Der gs (And parts) → Contains parts s → IsTrue (statement s) → Der gs s

-- What is derivable is a statement.
abbrev pub StatementLaw : Type 0
StatementLaw = (gs : List Sent) (s : Sent) → Der gs s → IsTrue (statement s)
