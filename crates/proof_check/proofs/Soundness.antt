-- A correct proof shows that the goal is derivable from the premises.
use Rattle.std.proofs.Common.{◌≡◌, ◌≢◌, ◌⊎◌, inl, inr, Err, ℕ, List, [], ◌∷◌, ◌++◌, map, refl, sym, subst, Option, Some, None, IsTrue, append-nil, Ok, Result, IfOk, IfSome}
use Rattle.std.specs.List.{AllByRecursion}
use Rattle.fol_core.specs.declared.sent.Sent.{Sent}
use Rattle.fol_core.specs.Statements.{statement}
use Rattle.deriv_laws.specs.declared.line.FlatLine.{FlatLine}
use Rattle.deriv_laws.specs.Derivable.{Der}
use Rattle.nested_proofs.specs.Items.{Items, flatten}
use Rattle.nested_proofs.specs.Placed.{Placed, lines_of, outside}
use Rattle.nested_proofs.proofs.Soundness.{faultless_proof_shows}
use Rattle.nested_proofs.proofs.VisibleSentences.{placed_lines}
use Rattle.fol_text.proofs.Wellformed.{readable_stated}
use Rattle.fitch_file.specs.Line.{IsStated}
use Rattle.fitch_file.specs.ProofText.{SpellLines, SpellsProof, no_more, blank_line, proof_line}
use Rattle.fitch_file.specs.declared.task.Task.{Task}
use Rattle.proof_check.specs.declared.verdict.Verdict.{Verdict}
use Rattle.proof_check.specs.declared.verdict.Verdict.TheVariants.{Correct, Unreadable}
use Rattle.fol_core.specs.Size.{within_limits}
use Rattle.proof_check.specs.Readers.{OfLines, StatesFit}
use Rattle.std.specs.declared.alloc.AllocError.{AllocError}
use Rattle.fitch_file.specs.declared.fault.TextFault.{TextFault}
use Rattle.fitch_file.specs.declared.fault.TextFault.TheVariants.{Memory}
use Rattle.fitch_file.specs.ProofFaults.{IsFirstFault}
use Rattle.nested_proofs.specs.Limits.{AreLines}
use Rattle.nested_proofs.proofs.OneProof.{a_proof}
use Rattle.proof_check.specs.Failing.{is_allowed, answers}
use Rattle.proof_check.proofs.Tautologies.{yes_shows}
use Rattle.proof_check.specs.Judged.{IsCorrect, IsJudged, is_correct, fails_first, misses_goal, IsText, IsVerdict, of_proof, of_faulty}

abbrev StatesStatement : FlatLine → Type 0
StatesStatement y = IfSome y.sentence (λ s. IsTrue (statement s))

-- what a line states is a statement
line_stated : (text : List ℕ) (s : Option Sent) → IsStated text s → IfSome s (λ x. IsTrue (statement x))
line_stated text None h = tt
line_stated text (Some s) h = readable_stated text s h.1

spelled_stated : (earlier : List FlatLine) (texts : List (List ℕ)) (ls : List FlatLine) → SpellLines earlier texts ls → AllByRecursion StatesStatement ls
spelled_stated _ _ _ (no_more earlier) = tt
spelled_stated _ _ _ (blank_line earlier text texts ls b h) = spelled_stated earlier texts ls h
spelled_stated _ _ _ (proof_line earlier text texts l ls h k) = (line_stated h.claim.stated l.sentence h.claimed.stated, spelled_stated (earlier ++ l ∷ []) texts ls k)

-- what a line states is within the limits
stated_within : (text : List ℕ) (s : Option Sent) → IsStated text s → IfSome s (λ x. within_limits x ≡ Ok tt)
stated_within text None h = tt
stated_within text (Some s) h = h.1.fit.within

pub spelled_fit : (earlier : List FlatLine) (texts : List (List ℕ)) (ls : List FlatLine) → SpellLines earlier texts ls → AllByRecursion StatesFit ls
spelled_fit _ _ _ (no_more earlier) = tt
spelled_fit _ _ _ (blank_line earlier text texts ls b h) = spelled_fit earlier texts ls h
spelled_fit _ _ _ (proof_line earlier text texts l ls h k) = (stated_within h.claim.stated l.sentence h.claimed.stated, spelled_fit (earlier ++ l ∷ []) texts ls k)

-- what holds of the flat lines holds of the placed ones
placed_all : (P : FlatLine → Type 0) (xs : List Placed) (ls : List FlatLine) → map (λ (x : Placed). x.line) xs ≡ ls → AllByRecursion P ls → AllByRecursion (λ (x : Placed). P x.line) xs
placed_all P [] ls e h = tt
placed_all P (x ∷ xs) [] e h = cc
placed_all P (x ∷ xs) (l ∷ ls) e h = (subst P (let f : l ≡ x.line = cc in f) h.0, placed_all P xs ls (let f : map (λ (y : Placed). y.line) xs ≡ ls = cc in f) h.1)

pub correct_proof_shows : (task : Task) (text : List ℕ) (p : Items) → IsText text p → IsCorrect task p → Der task.premises task.goal
correct_proof_shows task text p t h =
    subst (λ gs. Der gs task.goal) (append-nil task.premises)
    (faultless_proof_shows (is_allowed task.allowed) answers [] task.premises p task.goal (λ rule ps s c f g. yes_shows rule ps s c f g.1) (λ c. tt) t.proper
    (placed_all StatesStatement (lines_of p) (flatten 1 p) (placed_lines p outside 1 1) (spelled_stated [] t.spells.rest (flatten 1 p) t.spells.spell))
    h.pass h.reached)

-- a text that is a proof has the verdict of its nested proof
pub judged_text : (task : Task) (text : List ℕ) (ls : List FlatLine) (o : Result Verdict AllocError) → AreLines ls → SpellsProof text ls → IfOk o (λ v. OfLines ls (λ p. IsJudged task p v)) → IfOk o (λ v. IsVerdict task text v)
judged_text task text ls (Err e) a s h = tt
judged_text task text ls (Ok v) a s h =
    let p = a_proof ls a.well_nested in
    of_proof task text p.0 v (record { proper = p.1; spells = subst (λ xs. SpellsProof text xs) p.3 s }) (h p.0 p.1 p.3)

-- a text that is none has its first fault
pub faulty_text : (task : Task) (text : List ℕ) (n : ℕ) (fault : TextFault) (o : Result Verdict AllocError) → (fault ≡ Memory) ⊎ IsFirstFault text n fault → IfOk o (λ v. (v ≡ Unreadable n fault) × (fault ≢ Memory)) → IfOk o (λ v. IsVerdict task text v)
faulty_text task text n fault (Err e) f h = tt
faulty_text task text n fault (Ok v) (inl f) h = absurd (h.1 f)
faulty_text task text n fault (Ok v) (inr f) h = subst (λ w. IsVerdict task text w) (sym h.0) (of_faulty task text n fault f)

-- where the verdict is Correct, the goal is derivable
correct_shows : (task : Task) (text : List ℕ) (v : Verdict) → v ≡ Correct → IsVerdict task text v → Der task.premises task.goal
correct_shows _ _ _ e (of_proof task text p v t (is_correct _ _ h)) = correct_proof_shows task text p t h
correct_shows _ _ _ e (of_proof task text p v t (fails_first _ _ n f h)) = cc
correct_shows _ _ _ e (of_proof task text p v t (misses_goal _ _ n h)) = cc
correct_shows _ _ _ e (of_faulty task text n f h) = cc

pub verdict_shows : (task : Task) (text : List ℕ) → IsVerdict task text Correct → Der task.premises task.goal
verdict_shows task text h = correct_shows task text Correct refl h

pub answer_shows : (task : Task) (text : List ℕ) (o : Result Verdict AllocError) → IfOk o (λ v. IsVerdict task text v) → o ≡ Ok Correct → Der task.premises task.goal
answer_shows task text (Err x) h e = cc
answer_shows task text (Ok v) h e = correct_shows task text v (let f : v ≡ Correct = cc in f) h
