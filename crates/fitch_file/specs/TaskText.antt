-- Tasks as text.
use Rattle.std.specs.Prelude.{◌≡◌, ℕ, ◌+◌, ◌-◌, ◌==◌, true, false, List, [], ◌∷◌, length, Option, Some, None, if◌then◌else◌}
use Rattle.std.specs.Str.Lines.{lines}
use Rattle.texts.specs.Blanks.{after_blanks}
use Rattle.texts.specs.Lines.{IsFirstLine}
use Rattle.fitch_file.specs.declared.task.Allowed.{Allowed}
use Rattle.fitch_file.specs.declared.task.Task.{Task}
use Rattle.fitch_file.specs.declared.draft.Draft.{Draft}
use Rattle.physical_lines.specs.Physical.{IsBlankLine, IsHeaded}
use Rattle.fitch_file.specs.Headers.{task_header}
use Rattle.fitch_file.specs.Claim.{is_nothing}
use Rattle.fitch_file.specs.Words.{begins_proof}
use Rattle.fitch_file.specs.Declarations.{Declares, none_allowed, nothing}

-- The physical lines of the task, which end before the first line whose first word is `proof`, and the others.
abbrev pub task_lines : List (List ℕ) → List (List ℕ)
task_lines [] = []
task_lines (l ∷ ls) = if begins_proof l then [] else l ∷ task_lines ls

abbrev pub proof_lines : List (List ℕ) → List (List ℕ)
proof_lines [] = []
proof_lines (l ∷ ls) = if begins_proof l then l ∷ ls else proof_lines ls

-- How many of the lines lead up to the last one that isn't blank.
abbrev pub count_written : List (List ℕ) → ℕ
count_written [] = 0
count_written (l ∷ ls) = if count_written ls == 0 then (if is_nothing (after_blanks l) then 0 else 1) else 1 + count_written ls

-- `Declare before lines after`: each of the lines declares one thing more, or is blank.
pub data Declare : Draft → List (List ℕ) → Draft → Type 0 where
  no_more : (draft : Draft) → Declare draft [] draft
  blank_line : (before after : Draft) (line : List ℕ) (lines : List (List ℕ)) → IsBlankLine line → Declare before lines after → Declare before (line ∷ lines) after
  declaration : (before between after : Draft) (line : List ℕ) (lines : List (List ℕ)) → Declares before line between → Declare between lines after → Declare before (line ∷ lines) after

-- What is allowed: nothing where no line says so.
abbrev pub allowed_of : Option Allowed → Allowed
allowed_of (Some a) = a
allowed_of None = none_allowed

-- What was declared is the task: it has a goal.
pub record IsFinished (draft : Draft) (task : Task) : Type 0 where
  pub premises : task.premises ≡ draft.premises
  pub goal : draft.goal ≡ Some task.goal
  pub allowed : task.allowed ≡ allowed_of draft.allowed

-- The task text is so many lines: those before the proof text, and where there is no proof text, those up to the last one that
-- isn't blank.
abbrev pub count_before : List (List ℕ) → List (List ℕ) → ℕ
count_before [] ls = count_written ls
count_before (p ∷ ps) ls = length ls

abbrev pub count_of_lines : List (List ℕ) → ℕ
count_of_lines ls = count_before (proof_lines ls) (task_lines ls)

-- The task text is so many bytes of the text: those before the first line whose first word is `proof`, or all.
pub data EndsAt : List ℕ → ℕ → Type 0 where
  at_end : EndsAt [] 0
  at_proof : (text line rest : List ℕ) → IsFirstLine text line rest → begins_proof line ≡ true → EndsAt text 0
  past_line : (text line rest : List ℕ) (n : ℕ) → IsFirstLine text line rest → begins_proof line ≡ false → EndsAt rest n → EndsAt text (length text - length rest + n)

-- The text begins with the task: the header and then what it declares. It has so many lines and bytes.
pub record SpellsTask (text : List ℕ) (task : Task) (count rest : ℕ) : Type 0 where
  pub place : ℕ
  pub others : List (List ℕ)
  pub headed : IsHeaded task_header (lines text) place others
  pub draft : Draft
  pub declare : Declare nothing (task_lines others) draft
  pub finished : IsFinished draft task
  pub counted : count ≡ count_of_lines (lines text)
  pub ends : EndsAt text rest
