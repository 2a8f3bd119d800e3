-- The reply of the command `check`, from what its parts answer.
use Rattle.std.proofs.Common.{◌≡◌, ◌≢◌, ℕ, ◌≤◌, List, ◌∷◌, length, length-append, ap, arith, drop, sym, subst, Result, Ok, Err, IfOk, ◌⊎◌, inl, inr}
use Rattle.std.specs.declared.alloc.AllocError.{AllocError}
use Rattle.fitch_file.specs.declared.task.TaskText.{TaskText}
use Rattle.fitch_file.specs.declared.fault.TaskFault.{TaskFault}
use Rattle.fitch_file.specs.declared.fault.TaskFault.TheVariants.{Memory}
use Rattle.texts.specs.Lines.{IsFirstLine, ended, last}
use Rattle.fitch_file.specs.TaskText.{SpellsTask, EndsAt, at_end, at_proof, past_line}
use Rattle.fitch_file.specs.TaskFaults.{IsFirstTaskFault}
use Rattle.proof_check.specs.declared.verdict.Verdict.{Verdict}
use Rattle.proof_check.specs.Judged.{IsVerdict}
use Rattle.tutor_app.specs.Check.{check_answers, faulty_task, judged_proof}
use Rattle.fault_words.specs.ProofFaults.{task_fault_text}
use Rattle.tutor_app.specs.Report.{verdict_reply, unreadable_reply}
use Rattle.tutor_app.specs.declared.tool.Reply.{Reply}

-- where a task is read, the reply has the verdict
pub judged_answer : (bytes : List ℕ) (t : TaskText) (o : Result Reply AllocError) → SpellsTask bytes t.task t.lines t.rest →
    IfOk o (λ (reply : Reply). (v : Verdict) × IsVerdict t.task (drop t.rest bytes) v × (reply ≡ verdict_reply t.lines v)) → IfOk o (λ reply. check_answers bytes reply)
judged_answer bytes t (Err e) s h = tt
judged_answer bytes t (Ok reply) s (v, k, e) = subst (λ r. check_answers bytes r) (sym e) (judged_proof bytes t v s k)

-- where none is, it has the fault
pub faulty_answer : (bytes : List ℕ) (n : ℕ) (fault : TaskFault) (o : Result Reply AllocError) → (fault ≡ Memory) ⊎ IsFirstTaskFault bytes n fault →
    IfOk o (λ (reply : Reply). (fault ≢ Memory) × (reply ≡ unreadable_reply n (task_fault_text fault))) → IfOk o (λ reply. check_answers bytes reply)
faulty_answer bytes n fault (Err e) f h = tt
faulty_answer bytes n fault (Ok reply) (inl f) h = absurd (h.0 f)
faulty_answer bytes n fault (Ok reply) (inr f) h = subst (λ r. check_answers bytes r) (sym h.1) (faulty_task bytes n fault f)

-- a task text is no longer than the text
first_shorter : (text line rest : List ℕ) → IsFirstLine text line rest → length rest ≤ length text
first_shorter _ _ _ (ended text raw rest cut) = omega (arith, ap length cut.joined, length-append raw (10 ∷ rest))
first_shorter _ _ _ (last text n l) = omega arith

pub ends_within : (text : List ℕ) (n : ℕ) → EndsAt text n → n ≤ length text
ends_within _ _ at_end = omega arith
ends_within _ _ (at_proof text line rest f b) = omega arith
ends_within _ _ (past_line text line rest n f b e) = omega (arith, first_shorter text line rest f, ends_within rest n e)
