-- What the parts of the checker answer of flat lines: private descriptions, each of the nested proof that has the lines.
use Rattle.std.specs.Prelude.{◌≡◌, ◌≢◌, Bool, true, false, ℕ, zero, suc, ◌+◌, ◌<◌, ◌==◌, if◌then◌else◌, List, [], ◌∷◌, Option, Some, None, slice_get, IfSome, Ok}
use Rattle.std.specs.List.{AllByRecursion}
use Rattle.fol_core.specs.declared.sent.Sent.{Sent}
use Rattle.fol_core.specs.Word.{Word}
use Rattle.fol_core.specs.Size.{within_limits}
use Rattle.deriv_laws.specs.declared.line.FlatLine.{FlatLine}
use Rattle.deriv_laws.specs.declared.line.StepFault.{StepFault}
use Rattle.deriv_laws.specs.declared.line.StepFault.TheVariants as fault
use Rattle.nested_proofs.specs.Scope.{cited_sentences}
use Rattle.nested_proofs.specs.CiteTests.{cites_fault}
use Rattle.nested_proofs.specs.FollowsAt.{FollowsAt}
use Rattle.nested_proofs.specs.StaysAt.{StaysAt}
use Rattle.nested_proofs.specs.Fresh.{IsFresh, HasFreshBox}
use Rattle.nested_proofs.specs.Items.{Items, flatten, AreProper}
use Rattle.nested_proofs.specs.Placed.{Placed, lines_of}
use Rattle.rules_quant.specs.FailsAs.{FailsAs}
use Rattle.proof_check.specs.declared.check.Found.{Found}
use Rattle.proof_check.specs.declared.verdict.LineFault.{LineFault}
use Rattle.proof_check.specs.declared.verdict.LineFault.TheVariants as l
use Rattle.fitch_file.specs.declared.task.Task.{Task}
use Rattle.taut_con.specs.Answer.{taut_answer}
use Rattle.fitch_file.specs.declared.task.Allowed.{Allowed}
use Rattle.proof_check.specs.Failing.{Passes, is_allowed, is_tautological, taut_fault}
use Rattle.proof_check.specs.Judged.{AllPass, FailsFirst}

-- What the tests of a step come to: the fault of its cites, or else what the test of its rule comes to.
abbrev pub IsTested : Option StepFault → (Option LineFault → Type 0) → Option LineFault → Type 0
IsTested (Some e) R f = f ≡ Some (l.Step e)
IsTested None R f = R f

-- The line follows by its rule, and the constant that its cited subproof boxes stays arbitrary.
abbrev pub Stands : Placed → Type 0
Stands x = FollowsAt x × StaysAt x

-- What the test of its rule comes to.
abbrev pub IsRuleFault : Placed → Option LineFault → Type 0
IsRuleFault x None = Stands x
IsRuleFault x (Some f) = (e : StepFault) × (f ≡ l.Step e) × (e ≢ fault.Memory) × FailsAs e x

-- The fault of an opening: the boxed constant isn't fresh.
abbrev pub IsBoxFault : List Sent → Placed → Option LineFault → Type 0
IsBoxFault premises x None = HasFreshBox premises x.around x.line.boxed
IsBoxFault premises x (Some f) = (c : Word) × (x.line.boxed ≡ Some c) × (f ≡ l.Step (fault.NotFresh c)) × (IsFresh premises x.around c → ⊥)

-- The nested proof that has these lines has the property.
abbrev pub OfLines : List FlatLine → (Items → Type 0) → Type 0
OfLines lines P = (p : Items) → AreProper p → lines ≡ flatten 1 p → P p

-- Each line before line n passes its tests.
abbrev pub PassBefore : Task → List FlatLine → ℕ → Type 0
PassBefore task lines n = OfLines lines (λ p. AllByRecursion (λ (x : Placed). x.number < n → Passes task x) (lines_of p))

-- The first test that a step by an allowed rule fails: its cites, and then the test of the rule.
abbrev pub IsStepFault : Placed → Option LineFault → Type 0
IsStepFault x f = IsTested (cites_fault x.line.rule x.around.scope x.line.cites) (IsRuleFault x) f

-- What the truth table says of the line's sentence and the sentences that its cites find, where that isn't yes.
abbrev pub IsTableFault : Placed → Option LineFault → Type 0
IsTableFault x f = (s : Sent) × (x.line.sentence ≡ Some s) × (f ≡ taut_fault (taut_answer (cited_sentences x.around.scope x.line.cites) s))

-- The first test that a step by tautological consequence fails: its cites, and then the truth table.
abbrev pub IsTautStepFault : Placed → Option LineFault → Type 0
IsTautStepFault x f = IsTested (cites_fault x.line.rule x.around.scope x.line.cites) (IsTableFault x) f

-- One of three facts of a step: where its rule isn't allowed, where it is tautological consequence, and where it is one of
-- the system itself.
abbrev pub ByKind : Bool → Bool → Type 0 → Type 0 → Type 0 → Type 0
ByKind false taut R T S = R
ByKind true true R T S = T
ByKind true false R T S = S

-- The first test that a step fails: whether its rule is allowed, and then the tests of its kind.
abbrev pub IsInferenceFault : Allowed → Placed → Option LineFault → Type 0
IsInferenceFault allowed x f = ByKind (is_allowed allowed x.line.rule) (is_tautological x.line.rule) (f ≡ Some l.RuleNotAllowed) (IsTautStepFault x f) (IsStepFault x f)

-- The line's sentence, where it has one, is within the limits of sentences.
abbrev pub StatesFit : FlatLine → Type 0
StatesFit y = IfSome y.sentence (λ s. within_limits s ≡ Ok tt)

-- The first line that fails a test is this one, with its fault; or each line passes.
abbrev pub IsFirstFound : Task → List FlatLine → Option Found → Type 0
IsFirstFound task lines None = OfLines lines (AllPass task)
IsFirstFound task lines (Some found) = OfLines lines (λ p. FailsFirst task p found.number found.fault)

-- The number of the last of the lines, numbered from k on, that has depth 1; where there is none, the number from before.
abbrev pub last_outside : ℕ → ℕ → List FlatLine → ℕ
last_outside k before [] = before
last_outside k before (x ∷ ls) = last_outside (k + 1) (if x.depth == 1 then k else before) ls

-- The sentence of the line, where there is a line and it has one.
abbrev pub stated_by : Option FlatLine → Option Sent
stated_by None = None
stated_by (Some x) = x.sentence

-- The sentence of the line with this number, counted from 1; line 0 has none.
abbrev pub sentence_of : List FlatLine → ℕ → Option Sent
sentence_of ls zero = None
sentence_of ls (suc i) = stated_by (slice_get ls i)
