-- The first test that a line of a proof fails.
use Rattle.std.specs.Prelude.{◌≡◌, Bool, true, false, ◌||◌, ◌&&◌, Option, Some, None}
use Rattle.deriv_laws.specs.declared.rule.Rule.{Rule}
use Rattle.deriv_laws.specs.declared.rule.Rule.TheVariants as r
use Rattle.nested_proofs.specs.Placed.{Placed}
use Rattle.nested_proofs.specs.Faults.{Failure, NotAPremise, NotAllowed, AsStep, NotAConsequence, Answers, IsFirstFailure}
use Rattle.rules_prop.specs.Propositional.{is_propositional}
use Rattle.rules_quant.specs.Quantified.{is_quantified}
use Rattle.taut_con.specs.declared.answer.TautAnswer.{TautAnswer}
use Rattle.taut_con.specs.declared.answer.TautAnswer.TheVariants.{Yes, No, TooManyLetters}
use Rattle.taut_con.specs.Answer.{taut_answer}
use Rattle.fitch_file.specs.declared.task.Allowed.{Allowed}
use Rattle.fitch_file.specs.declared.task.Task.{Task}
use Rattle.proof_check.specs.declared.verdict.LineFault.{LineFault}
use Rattle.proof_check.specs.declared.verdict.LineFault.TheVariants as l

-- The rules of the system itself: repetition, and the rules of the connectives, of identity and of the quantifiers.
abbrev pub is_own : Rule → Bool
is_own rule = is_propositional rule || is_quantified rule

-- The rule is tautological consequence.
abbrev pub is_tautological : Rule → Bool
is_tautological r.TautCon = true
is_tautological _ = false

-- The rules that a step may go by: those of the system itself, and tautological consequence where the task allows it.
-- The other consequence rules are allowed to no proof yet.
abbrev pub is_allowed : Allowed → Rule → Bool
is_allowed allowed rule = is_own rule || (is_tautological rule && allowed.taut)

-- What is wrong with a step by tautological consequence, by the answer of the truth table: nothing where it is yes.
abbrev pub taut_fault : TautAnswer → Option LineFault
taut_fault Yes = None
taut_fault (No row) = Some (l.NotTaut row)
taut_fault (TooManyLetters n) = Some (l.Letters n)

-- What the consequence rules answer on the cited sentences, in their order, and the line's own: tautological consequence
-- as the truth table does; the others aren't asked yet.
abbrev pub answers : Answers LineFault
answers r.TautCon ps s o = o ≡ taut_fault (taut_answer ps s)
answers _ ps s o = ⊥

-- The first test that the line fails, or none.
abbrev pub IsLineFailure : Task → Placed → Option (Failure LineFault) → Type 0
IsLineFailure task x o = IsFirstFailure (is_allowed task.allowed) answers task.premises x o

-- The line fails no test.
abbrev pub Passes : Task → Placed → Type 0
Passes task x = IsLineFailure task x None

-- The fault that a failure is.
abbrev pub fault_of : Failure LineFault → LineFault
fault_of NotAPremise = l.NotAPremise
fault_of NotAllowed = l.RuleNotAllowed
fault_of (AsStep f) = l.Step f
fault_of (NotAConsequence f) = f

-- This is the fault of the line, or the line fails no test.
abbrev pub IsLineFault : Task → Placed → Option LineFault → Type 0
IsLineFault task x None = Passes task x
IsLineFault task x (Some fault) = (failure : Failure LineFault) × IsLineFailure task x (Some failure) × (fault ≡ fault_of failure)
