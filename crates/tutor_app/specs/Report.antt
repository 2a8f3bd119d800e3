-- What is replied with a verdict, and to an input that hasn't the form.
use Rattle.std.specs.Prelude.{ℕ, ◌+◌, List, [], ◌∷◌, ◌++◌, codes}
use Rattle.std.specs.Fmt.{decimal}
use Rattle.fault_words.specs.ProofFaults.{line_fault_text, proof_fault_text}
use Rattle.proof_check.specs.declared.verdict.Verdict.{Verdict}
use Rattle.proof_check.specs.declared.verdict.Verdict.TheVariants.{Correct, Wrong, Unreadable}
use Rattle.tutor_app.specs.declared.tool.Reply.{Reply}

-- A printed line: what is said, the number of a line, and its fault.
abbrev pub report : List ℕ → ℕ → List ℕ → List ℕ
report said n fault = said ++ decimal n ++ codes ": " ++ fault ++ 10 ∷ []

-- The reply to an input whose physical line n has this fault.
abbrev pub unreadable_reply : ℕ → List ℕ → Reply
unreadable_reply n fault = record { code = 3; text = report (codes "unreadable line ") n fault }

-- The reply with the verdict on a proof text, before which so many physical lines stand. Physical lines are counted in
-- the whole input, and proof lines in the proof.
abbrev pub verdict_reply : ℕ → Verdict → Reply
verdict_reply before Correct = record { code = 0; text = codes "correct" ++ 10 ∷ [] }
verdict_reply before (Wrong n fault) = record { code = 1; text = report (codes "wrong line ") n (line_fault_text fault) }
verdict_reply before (Unreadable n fault) = unreadable_reply (before + n) (proof_fault_text fault)
