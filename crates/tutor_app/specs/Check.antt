-- The command `check`: the proof that the input writes is judged for the task that it writes.
use Rattle.std.specs.Prelude.{ℕ, List, [], ◌∷◌, codes, drop}
use Rattle.std.specs.declared.option.Option.{Option}
use Rattle.deriv_laws.specs.Derivable.{Der}
use Rattle.fitch_file.specs.declared.task.TaskText.{TaskText}
use Rattle.fitch_file.specs.declared.fault.TaskFault.{TaskFault}
use Rattle.fitch_file.specs.TaskText.{SpellsTask}
use Rattle.fitch_file.specs.TaskFaults.{IsFirstTaskFault}
use Rattle.proof_check.specs.declared.verdict.Verdict.{Verdict}
use Rattle.proof_check.specs.declared.verdict.Verdict.TheVariants.{Correct}
use Rattle.proof_check.specs.Judged.{IsVerdict}
use Rattle.fault_words.specs.ProofFaults.{task_fault_text}
use Rattle.tutor_app.specs.Report.{unreadable_reply, verdict_reply}
use Rattle.tutor_app.specs.Transfer.{ReadsAll}
use Rattle.tutor_app.specs.declared.tool.Reply.{Reply}

-- the words that ask for it
abbrev pub check_words : List (List ℕ)
check_words = codes "check" ∷ []

-- The reply to these bytes: they write no task, and the reply names the first fault of the task text; or they write a
-- task, and the reply has the verdict on the proof text behind it.
pub data check_answers : List ℕ → Reply → Type 0 where
  faulty_task : (bytes : List ℕ) (n : ℕ) (fault : TaskFault) → IsFirstTaskFault bytes n fault → check_answers bytes (unreadable_reply n (task_fault_text fault))
  judged_proof : (bytes : List ℕ) (t : TaskText) (verdict : Verdict) → SpellsTask bytes t.task t.lines t.rest → IsVerdict t.task (drop t.rest bytes) verdict → check_answers bytes (verdict_reply t.lines verdict)

-- These bytes write a task and a correct proof for it, and the goal has a natural-deduction tree from the premises.
pub record ShowsTree (bytes : List ℕ) : Type 0 where
  pub text : TaskText
  pub spells : SpellsTask bytes text.task text.lines text.rest
  pub correct : IsVerdict text.task (drop text.rest bytes) Correct
  pub derivable : Der text.task.premises text.task.goal

-- The input was read to its end, and it shows a natural-deduction tree for its goal.
abbrev pub ReadsTree : Option (List ℕ) → Option (List ℕ) → Type 0
ReadsTree left left' = (bytes : List ℕ) × ReadsAll left left' bytes × ShowsTree bytes
