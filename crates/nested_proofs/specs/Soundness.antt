-- Soundness: what the lines of a nested proof state is derivable.
use Rattle.std.specs.Prelude.{◌≡◌, false, IsTrue, Bool, List, ◌++◌, Some, None, IfSome, if◌then◌else◌}
use Rattle.std.specs.List.{AllByRecursion}
use Rattle.fol_core.specs.declared.sent.Sent.{Sent}
use Rattle.fol_core.specs.Word.{Word}
use Rattle.fol_core.specs.Statements.{statement, AreStatements}
use Rattle.fol_core.specs.Subst.{occurs}
use Rattle.deriv_laws.specs.declared.rule.Rule.{Rule}
use Rattle.deriv_laws.specs.Derivable.{Der}
use Rattle.nested_proofs.specs.Kinds.{kind_of, is_own_kind}
use Rattle.nested_proofs.specs.Items.{Items, opens, AreProper}
use Rattle.nested_proofs.specs.Scope.{prepend}
use Rattle.nested_proofs.specs.Placed.{Placed, lines_of, last_of}
use Rattle.nested_proofs.specs.Justified.{Consequence, IsJustified, HasStatement}
use Rattle.nested_proofs.specs.Faults.{Answers, IsFirstFailure, says_yes}

-- The assumptions that are open at a line: those of the subproofs that it stands in, and its own where it opens one.
abbrev pub open_at_line : Placed → List Sent
open_at_line x = if opens x.line.rule then prepend x.line.sentence x.around.assumed else x.around.assumed

-- The line's sentence, where it has one, is derivable from the open assumptions and the base.
abbrev pub IsDerived : List Sent → Placed → Type 0
IsDerived base x = IfSome x.line.sentence (λ s. Der (open_at_line x ++ base) s)

-- A consequence rule is sound over the axioms: a statement that it says to be a consequence of
-- statements is derivable from them and the axioms.
abbrev pub IsSoundOver : Consequence → List Sent → Type 0
IsSoundOver con axioms = (rule : Rule) (ps : List Sent) (s : Sent) → AreStatements ps → IsTrue (statement s) → con rule ps s → Der (ps ++ axioms) s

-- No name stands in the axioms, so that they say nothing of a boxed constant.
abbrev pub HaveNoName : List Sent → Type 0
HaveNoName axioms = (c : Word) → AllByRecursion (λ s. occurs c s ≡ false) axioms

-- Where each line is justified, each line's sentence is derivable from the assumptions that are open
-- there, the premises and the axioms.
abbrev pub EachLineIsDerived : Consequence → List Sent → Type 0
EachLineIsDerived con axioms = (premises : List Sent) (items : Items) → IsSoundOver con axioms → HaveNoName axioms → AreProper items →
    AllByRecursion HasStatement (lines_of items) → AllByRecursion (IsJustified con premises) (lines_of items) → AllByRecursion (IsDerived (premises ++ axioms)) (lines_of items)

-- Where each line is justified, the last sentence outside all subproofs is derivable from the premises
-- and the axioms alone.
abbrev pub LastLineIsDerived : Consequence → List Sent → Type 0
LastLineIsDerived con axioms = (premises : List Sent) (items : Items) (goal : Sent) → IsSoundOver con axioms → HaveNoName axioms → AreProper items →
    AllByRecursion HasStatement (lines_of items) → AllByRecursion (IsJustified con premises) (lines_of items) → last_of None items ≡ Some goal → Der (premises ++ axioms) goal

-- No consequence rule is allowed.
abbrev pub none_allowed : Consequence
none_allowed rule ps s = ⊥

-- Where no line fails a test, the last sentence outside all subproofs is derivable from the premises and
-- the axioms alone.
abbrev pub FaultlessProofShows : {A : Type 0} → (Rule → Bool) → Answers A → List Sent → Type 0
FaultlessProofShows allowed answers axioms = (premises : List Sent) (items : Items) (goal : Sent) → IsSoundOver (says_yes allowed answers) axioms → HaveNoName axioms → AreProper items →
    AllByRecursion HasStatement (lines_of items) → AllByRecursion (λ (x : Placed). IsFirstFailure allowed answers premises x None) (lines_of items) → last_of None items ≡ Some goal → Der (premises ++ axioms) goal

-- The rules other than the consequence rules are allowed.
abbrev pub without_consequence : Rule → Bool
without_consequence rule = is_own_kind (kind_of rule)

-- No consequence rule answers.
abbrev pub no_answer : Answers Sent
no_answer rule ps s o = ⊥
