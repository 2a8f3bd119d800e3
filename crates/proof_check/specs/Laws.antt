-- What holds of verdicts.
use Rattle.std.specs.Prelude.{◌≡◌, ℕ, List}
use Rattle.deriv_laws.specs.Derivable.{Der}
use Rattle.fitch_file.specs.declared.task.Task.{Task}
use Rattle.proof_check.specs.declared.verdict.Verdict.{Verdict}
use Rattle.proof_check.specs.declared.verdict.Verdict.TheVariants.{Correct}
use Rattle.proof_check.specs.Judged.{IsVerdict}

-- Soundness: where a text is a correct proof for the task, the goal is derivable from the premises.
abbrev pub CorrectIsDerivable : Type 0
CorrectIsDerivable = (task : Task) (text : List ℕ) → IsVerdict task text Correct → Der task.premises task.goal

-- At most one verdict is to be said of a text.
abbrev pub OneVerdict : Type 0
OneVerdict = (task : Task) (text : List ℕ) (v w : Verdict) → IsVerdict task text v → IsVerdict task text w → v ≡ w
