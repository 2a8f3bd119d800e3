-- The least faulty physical line of a task text, and its fault.
use Rattle.std.specs.Prelude.{◌≡◌, ℕ, ◌+◌, ◌≤◌, List, ◌∷◌, length, None, ◌⊎◌}
use Rattle.std.specs.Str.Lines.{lines}
use Rattle.fol_core.specs.declared.sent.Sent.{Sent}
use Rattle.fol_text.specs.Readable.{IsReadable}
use Rattle.fol_text.specs.Refusals.{IsRefused}
use Rattle.fitch_file.specs.declared.fault.TaskFault.{TaskFault}
use Rattle.fitch_file.specs.declared.fault.TaskFault.TheVariants.{Header, Form, Sentence, NoGoal, TooManyPremises}
use Rattle.fitch_file.specs.declared.task.Allowed.{Allowed}
use Rattle.fitch_file.specs.declared.draft.Draft.{Draft}
use Rattle.physical_lines.specs.Physical.{IsBlankLine, IsHeaded, LacksHeader}
use Rattle.fitch_file.specs.Headers.{task_header}
use Rattle.fitch_file.specs.Declarations.{IsBehind, AllowsText, Says, Declares, premise_word, goal_word, con_word, nothing}
use Rattle.fitch_file.specs.TaskText.{Declare, task_lines, count_written}

-- The text of a premise is refused, or it is the 33rd premise.
abbrev pub PremiseFails : Draft → List ℕ → TaskFault → Type 0
PremiseFails before text (Sentence fault) = IsRefused text fault
PremiseFails before text TooManyPremises = (s : Sent) × IsReadable text s × (32 ≤ length before.premises)
PremiseFails before text _ = ⊥

-- There is a goal already, or the text of the goal is refused.
abbrev pub GoalFails : Draft → List ℕ → TaskFault → Type 0
GoalFails before text Form = before.goal ≡ None → ⊥
GoalFails before text (Sentence fault) = (before.goal ≡ None) × IsRefused text fault
GoalFails before text _ = ⊥

-- What is allowed stands in a line already, or the text isn't one to three different words for it.
abbrev pub AllowedFails : Draft → List ℕ → TaskFault → Type 0
AllowedFails before text Form = (a : Allowed) → before.allowed ≡ None → AllowsText text a → ⊥
AllowedFails before text _ = ⊥

-- The line is no premise, no goal, and doesn't say what is allowed.
pub record HasNoKeyword (line : List ℕ) : Type 0 where
  pub no_premise : (text : List ℕ) → IsBehind premise_word line text → ⊥
  pub no_goal : (text : List ℕ) → IsBehind goal_word line text → ⊥
  pub no_con : (text : List ℕ) → IsBehind con_word line text → ⊥

-- After what was declared before, this is the fault of the line.
abbrev pub DeclarationFails : Draft → List ℕ → TaskFault → Type 0
DeclarationFails before line fault =
    Says premise_word line (λ text. PremiseFails before text fault)
    ⊎ Says goal_word line (λ text. GoalFails before text fault)
    ⊎ Says con_word line (λ text. AllowedFails before text fault)
    ⊎ ((fault ≡ Form) × HasNoKeyword line)

-- `DeclareFails before place lines n fault`: the first of the lines is the physical line `place`. Blank lines and lines that
-- declare one thing more lead to the physical line n, and this is its fault.
pub data DeclareFails : Draft → ℕ → List (List ℕ) → ℕ → TaskFault → Type 0 where
  fails_here : (before : Draft) (place : ℕ) (line : List ℕ) (lines : List (List ℕ)) (fault : TaskFault) →
      (IsBlankLine line → ⊥) → DeclarationFails before line fault → DeclareFails before place (line ∷ lines) place fault
  past_blank : (before : Draft) (place : ℕ) (line : List ℕ) (lines : List (List ℕ)) (n : ℕ) (fault : TaskFault) →
      IsBlankLine line → DeclareFails before (place + 1) lines n fault → DeclareFails before place (line ∷ lines) n fault
  past_line : (before between : Draft) (place : ℕ) (line : List ℕ) (lines : List (List ℕ)) (n : ℕ) (fault : TaskFault) →
      Declares before line between → DeclareFails between (place + 1) lines n fault → DeclareFails before place (line ∷ lines) n fault

-- The physical line n, counted from 1, is the least faulty one, and this is its fault. Where only the goal is missing, it is
-- the line behind the last one of the task that isn't blank.
pub data IsFirstTaskFault : List ℕ → ℕ → TaskFault → Type 0 where
  no_header : (text : List ℕ) (n : ℕ) → LacksHeader task_header (lines text) n → IsFirstTaskFault text n Header
  no_declaration : (text : List ℕ) (place : ℕ) (others : List (List ℕ)) (n : ℕ) (fault : TaskFault) →
      IsHeaded task_header (lines text) place others → DeclareFails nothing (place + 1) (task_lines others) n fault → IsFirstTaskFault text n fault
  no_goal : (text : List ℕ) (place : ℕ) (others : List (List ℕ)) (draft : Draft) →
      IsHeaded task_header (lines text) place others → Declare nothing (task_lines others) draft → draft.goal ≡ None → IsFirstTaskFault text (count_written (task_lines (lines text)) + 1) NoGoal
