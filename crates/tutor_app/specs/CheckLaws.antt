-- The laws that a tool owes, for the command `check`.
use Rattle.std.specs.Prelude.{◌≡◌, ℕ, List, refl, drop}
use Rattle.std.proofs.Common.{ap₂, subst, inl, inr}
use Rattle.fitch_file.specs.declared.task.TaskText.{TaskText}
use Rattle.proof_check.specs.declared.verdict.Verdict.{Verdict}
use Rattle.proof_check.specs.declared.verdict.Verdict.TheVariants.{Correct, Wrong, Unreadable}
use Rattle.proof_check.specs.Judged.{IsVerdict}
use Rattle.fitch_file.proofs.Sentences.{sentence_laws}
use Rattle.fitch_file.proofs.TaskOnce.{task_once, task_fault_once, task_not_faulty}
use Rattle.proof_check.proofs.OneVerdict.{verdict_once}
use Rattle.tutor_app.specs.Check.{check_answers, faulty_task, judged_proof}
use Rattle.fault_words.specs.ProofFaults.{task_fault_text}
use Rattle.tutor_app.specs.Report.{verdict_reply, unreadable_reply}
use Rattle.tutor_app.specs.Reply.{IsReplyCode}
use Rattle.tutor_app.specs.declared.tool.Reply.{Reply}

-- The status of each verdict is that of a reply.
verdict_known : (before : ℕ) (v : Verdict) → IsReplyCode (verdict_reply before v).code
verdict_known before Correct = inl refl
verdict_known before (Wrong n f) = inr (inl refl)
verdict_known before (Unreadable n f) = inr (inr refl)

-- Each reply has such a status.
pub check_known : (bytes : List ℕ) (reply : Reply) → check_answers bytes reply → IsReplyCode reply.code
check_known _ _ (faulty_task bytes n f h) = inr (inr refl)
check_known _ _ (judged_proof bytes t v h k) = verdict_known t.lines v

-- There is one reply at most to the same bytes.
pub check_only : (bytes : List ℕ) (r q : Reply) → check_answers bytes r → check_answers bytes q → r ≡ q
check_only _ _ _ (faulty_task bytes n f h) (faulty_task _ m g k) = let e = task_fault_once sentence_laws h m g k in ap₂ (λ i x. unreadable_reply i (task_fault_text x)) e.number e.is
check_only _ _ _ (faulty_task bytes n f h) (judged_proof _ t v k l) = absurd (task_not_faulty sentence_laws h t k)
check_only _ _ _ (judged_proof bytes t v h i) (faulty_task _ m g k) = absurd (task_not_faulty sentence_laws k t h)
check_only _ _ _ (judged_proof bytes t v h i) (judged_proof _ u w k l) =
    let e : t ≡ u = task_once sentence_laws bytes t u h k in
    let j : v ≡ w = verdict_once u.task (drop u.rest bytes) v w (subst (λ (x : TaskText). IsVerdict x.task (drop x.rest bytes) v) e i) l in
    ap₂ (λ (x : TaskText) y. verdict_reply x.lines y) e j
