-- What the status 0 of the command `check` shows.
use Rattle.std.proofs.Common.{◌≡◌, ℕ, List, drop, refl, sym, ◌∙◌, inl, eqb, eq-eqb, true, false}
use Rattle.std.specs.declared.option.Option.{Option}
use Rattle.fitch_file.specs.declared.task.TaskText.{TaskText}
use Rattle.fitch_file.specs.TaskText.{SpellsTask}
use Rattle.proof_check.specs.declared.verdict.Verdict.{Verdict}
use Rattle.proof_check.specs.declared.verdict.Verdict.TheVariants.{Correct, Wrong, Unreadable}
use Rattle.proof_check.specs.Judged.{IsVerdict}
use Rattle.proof_check.proofs.Soundness.{verdict_shows}
use Rattle.std.specs.Io.KnownBytes.{Appends}
use Rattle.tutor_app.specs.Check.{check_answers, faulty_task, judged_proof, ShowsTree, ReadsTree}
use Rattle.tutor_app.specs.Report.{verdict_reply}
use Rattle.tutor_app.specs.Reply.{TheReply}
use Rattle.tutor_app.specs.Run.{ToolRuns}
use Rattle.tutor_app.specs.Transfer.{ReadsAll}
use Rattle.tutor_app.specs.declared.tool.Reply.{Reply}

apart : (m n : ℕ) → m ≡ n → eqb m n ≡ false → ⊥
apart m n e f = let g : eqb m n ≡ true = eq-eqb m n e in cc

-- what the status 0 shows
correct_shown : (bytes : List ℕ) (t : TaskText) (v : Verdict) → SpellsTask bytes t.task t.lines t.rest → IsVerdict t.task (drop t.rest bytes) v → (verdict_reply t.lines v).code ≡ 0 → ShowsTree bytes
correct_shown bytes t Correct h k e = record { text = t; spells = h; correct = k; derivable = verdict_shows t.task (drop t.rest bytes) k }
correct_shown bytes t (Wrong n f) h k e = absurd (apart 1 0 e refl)
correct_shown bytes t (Unreadable n f) h k e = absurd (apart 3 0 e refl)

shown : (bytes : List ℕ) (reply : Reply) → check_answers bytes reply → reply.code ≡ 0 → ShowsTree bytes
shown _ _ (faulty_task bytes n f h) e = absurd (apart 3 0 e refl)
shown _ _ (judged_proof bytes t v h k) e = correct_shown bytes t v h k e

-- Where the status is 0, the input shows a tree for its goal.
pub reads_tree : (left left' taken taken' : Option (List ℕ)) (code : ℕ) → ToolRuns check_answers left left' taken taken' code → code ≡ 0 → ReadsTree left left'
reads_tree left left' taken taken' code runs e =
    let a : (bytes : List ℕ) × ReadsAll left left' bytes × ((reply : Reply) × TheReply check_answers bytes reply × (code ≡ reply.code) × Appends taken taken' reply.text) = runs.answered (inl e) in
    (a.0, a.1, shown a.0 a.2.0 a.2.1.is (sym a.2.2 ∙ e))
