-- A run over an input that is told.
use Rattle.std.proofs.Common.{◌≡◌, ℕ, ◌<◌, ◌≤◌, List, [], ◌++◌, length, sym, ap, subst, ◌∙◌, arith, append-nil, length-append, Option, Some, None, inl, inr}
use Rattle.std.specs.Prelude.{◌⊎◌}
use Rattle.tutor_app.specs.Transfer.{ReadsAll, ReadsTooMuch, input_limit}
use Rattle.tutor_app.specs.Reply.{TheReply}
use Rattle.tutor_app.specs.Run.{ToolRuns, ToolRunsOn}
use Rattle.tutor_app.specs.declared.tool.Reply.{Reply}

-- All of the told bytes were read, and none is left.
all_read : (bytes read : List ℕ) (left' : Option (List ℕ)) → ReadsAll (Some bytes) left' read → (left' ≡ Some []) × (read ≡ bytes)
all_read bytes read None r = absurd r.consumed
all_read bytes read (Some rest) r = (ap Some r.ended, sym (append-nil read) ∙ ap (λ xs. read ++ xs) (sym r.ended) ∙ sym r.consumed)

too_much : (bytes : List ℕ) (left' : Option (List ℕ)) → ReadsTooMuch (Some bytes) left' → input_limit < length bytes
too_much bytes None r = absurd r.1
too_much bytes (Some rest) r = omega (arith, ap length r.1, length-append r.0 rest, r.2)

within : (bytes read : List ℕ) (left' : Option (List ℕ)) → ReadsAll (Some bytes) left' read → length bytes ≤ input_limit
within bytes read left' r = let e : read ≡ bytes = (all_read bytes read left' r).1 in subst (λ (xs : List ℕ). length xs ≤ input_limit) e r.fits

over : (answers : List ℕ → Reply → Type 0) (bytes : List ℕ) (left' taken taken' : Option (List ℕ)) (code : ℕ) → ToolRuns answers (Some bytes) left' taken taken' code →
    input_limit < length bytes → (code ≡ 9) ⊎ (code ≡ 4) ⊎ (code ≡ 7)
over answers bytes left' taken taken' code runs long = elim (runs.codes) [
  | inl z ↦ let a = runs.answered z in let w : length bytes ≤ input_limit = within bytes a.0 left' a.1 in absurd (omega arith)
  | inr (inl z) ↦ inr (inl z)
  | inr (inr (inl z)) ↦ let a = runs.cut_off z in let w : length bytes ≤ input_limit = within bytes a.0 left' a.1 in absurd (omega arith)
  | inr (inr (inr (inl z))) ↦ inr (inr z)
  | inr (inr (inr (inr z))) ↦ inl z
]

under : (answers : List ℕ → Reply → Type 0) (bytes : List ℕ) (left' taken taken' : Option (List ℕ)) (code : ℕ) → ToolRuns answers (Some bytes) left' taken taken' code →
    length bytes ≤ input_limit → (reply : Reply) → answers bytes reply → (code ≡ reply.code) ⊎ (code ≡ 4) ⊎ (code ≡ 5) ⊎ (code ≡ 7)
under answers bytes left' taken taken' code runs short reply is = elim (runs.codes) [
  | inl z ↦
      let a = runs.answered z in
      let t : TheReply answers bytes a.2.0 = subst (λ xs. TheReply answers xs a.2.0) (all_read bytes a.0 left' a.1).1 a.2.1 in
      inl (a.2.2 ∙ ap (λ (r : Reply). r.code) (sym (t.only reply is)))
  | inr (inl z) ↦ inr (inl z)
  | inr (inr (inl z)) ↦ inr (inr (inl z))
  | inr (inr (inr (inl z))) ↦ inr (inr (inr z))
  | inr (inr (inr (inr z))) ↦ let l : input_limit < length bytes = too_much bytes left' (runs.too_long z) in absurd (omega arith)
]

pub told_runs : (answers : List ℕ → Reply → Type 0) (bytes : List ℕ) (left left' taken taken' : Option (List ℕ)) (code : ℕ) → left ≡ Some bytes →
    ToolRuns answers left left' taken taken' code → ToolRunsOn answers bytes left' taken taken' code
told_runs answers bytes left left' taken taken' code e lent =
    let runs : ToolRuns answers (Some bytes) left' taken taken' code = subst (λ l. ToolRuns answers l left' taken taken' code) e lent in
    record {
      answered = λ z.
          let a = runs.answered z in
          let r : (left' ≡ Some []) × (a.0 ≡ bytes) = all_read bytes a.0 left' a.1 in
          (r.0, (a.2.0, subst (λ xs. TheReply answers xs a.2.0) r.1 a.2.1, a.2.2, a.2.3));
      cut_off = λ z.
          let a = runs.cut_off z in
          let r : (left' ≡ Some []) × (a.0 ≡ bytes) = all_read bytes a.0 left' a.1 in
          (r.0, (a.2.0, subst (λ xs. TheReply answers xs a.2.0) r.1 a.2.1, a.2.2));
      too_long = λ z. too_much bytes left' (runs.too_long z);
      over_limit = over answers bytes left' taken taken' code runs;
      within_limit = under answers bytes left' taken taken' code runs;
    }
