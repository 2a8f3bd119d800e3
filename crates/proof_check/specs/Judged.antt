-- The verdict on a proof text.
use Rattle.std.specs.Prelude.{◌≡◌, ℕ, ◌+◌, ◌<◌, List, Contains, Some, None}
use Rattle.std.specs.List.{AllByRecursion}
use Rattle.fol_core.specs.declared.sent.Sent.{Sent}
use Rattle.nested_proofs.specs.Items.{Items, Done, Step, Sub, size, flatten, AreProper}
use Rattle.nested_proofs.specs.Placed.{Placed, lines_of, last_of}
use Rattle.fitch_file.specs.ProofText.{SpellsProof}
use Rattle.fitch_file.specs.ProofFaults.{IsFirstFault}
use Rattle.fitch_file.specs.declared.task.Task.{Task}
use Rattle.fitch_file.specs.declared.fault.TextFault.{TextFault}
use Rattle.proof_check.specs.declared.verdict.LineFault.{LineFault}
use Rattle.proof_check.specs.declared.verdict.LineFault.TheVariants.{GoalNotReached}
use Rattle.proof_check.specs.declared.verdict.Verdict.{Verdict}
use Rattle.proof_check.specs.declared.verdict.Verdict.TheVariants.{Correct, Wrong, Unreadable}
use Rattle.proof_check.specs.Failing.{Passes, IsLineFault}

-- The number of the last step of the items' own list, past all subproofs, where the first line of the items has the
-- number k; where there is no step, the number from before.
abbrev pub last_number : ℕ → ℕ → Items → ℕ
last_number k before Done = before
last_number k before (Step s rule cites rest) = last_number (k + 1) k rest
last_number k before (Sub o body rest) = last_number (k + 1 + size body) before rest

-- Each line passes its tests.
abbrev pub AllPass : Task → Items → Type 0
AllPass task p = AllByRecursion (Passes task) (lines_of p)

-- The last sentence outside all subproofs is the goal.
abbrev pub Reaches : Sent → Items → Type 0
Reaches goal p = last_of None p ≡ Some goal

-- Each line of the nested proof passes its tests, and the proof reaches the goal.
pub record IsCorrect (task : Task) (p : Items) : Type 0 where
  pub pass : AllPass task p
  pub reached : Reaches task.goal p

-- Line n is the least that fails a test, and this is its first fault.
pub record FailsFirst (task : Task) (p : Items) (n : ℕ) (fault : LineFault) : Type 0 where
  pub before : AllByRecursion (λ (x : Placed). x.number < n → Passes task x) (lines_of p)
  pub line : Placed
  pub there : Contains (lines_of p) line
  pub number : line.number ≡ n
  pub fails : IsLineFault task line (Some fault)

-- Each line passes its tests, and the last one outside all subproofs, which is line n, isn't the goal; or there is none,
-- and n is 0.
pub record MissesGoal (task : Task) (p : Items) (n : ℕ) : Type 0 where
  pub pass : AllPass task p
  pub missed : Reaches task.goal p → ⊥
  pub last : n ≡ last_number 1 0 p

-- What is to be said of a nested proof for the task.
pub data IsJudged : Task → Items → Verdict → Type 0 where
  is_correct : (task : Task) (p : Items) → IsCorrect task p → IsJudged task p Correct
  fails_first : (task : Task) (p : Items) (n : ℕ) (fault : LineFault) → FailsFirst task p n fault → IsJudged task p (Wrong n fault)
  misses_goal : (task : Task) (p : Items) (n : ℕ) → MissesGoal task p n → IsJudged task p (Wrong n GoalNotReached)

-- The text is that of the nested proof.
pub record IsText (text : List ℕ) (p : Items) : Type 0 where
  pub proper : AreProper p
  pub spells : SpellsProof text (flatten 1 p)

-- What is to be said of a text: what is to be said of the nested proof whose text it is, or the first fault of a text
-- that is no proof text.
pub data IsVerdict : Task → List ℕ → Verdict → Type 0 where
  of_proof : (task : Task) (text : List ℕ) (p : Items) (v : Verdict) → IsText text p → IsJudged task p v → IsVerdict task text v
  of_faulty : (task : Task) (text : List ℕ) (n : ℕ) (fault : TextFault) → IsFirstFault text n fault → IsVerdict task text (Unreadable n fault)
