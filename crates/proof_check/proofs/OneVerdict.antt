-- A text has at most one verdict.
use Rattle.std.proofs.Common.{◌≡◌, ℕ, ◌+◌, ◌≤◌, ◌<◌, List, [], ◌∷◌, map, refl, ap, ap₂, sym, subst, ◌∙◌, Option, Some, None, Contains, arith, ◌⊎◌, inl, inr}
use Rattle.std.proofs.lemmas.Bool.{cases_lt}
use Rattle.std.proofs.Math.Nat.{eq-or-lt_of_le}
use Rattle.std.specs.List.{AllByRecursion}
use Rattle.deriv_laws.specs.declared.line.FlatLine.{FlatLine}
use Rattle.deriv_laws.proofs.Lists.{all_turn}
use Rattle.deriv_laws.proofs.Members.{all_each, contains_cases}
use Rattle.nested_proofs.specs.Items.{Items, flatten}
use Rattle.nested_proofs.specs.Placed.{Placed, lines_of, outside}
use Rattle.nested_proofs.specs.Faults.{Failure}
use Rattle.nested_proofs.proofs.OneFailure.{one_first_failure}
use Rattle.nested_proofs.proofs.OneProof.{one_proof}
use Rattle.nested_proofs.proofs.VisibleSentences.{numbers, placed_numbers}
use Rattle.fitch_file.specs.ProofText.{SpellsProof}
use Rattle.fitch_file.proofs.Once.{proof_once, first_fault_once, proof_not_faulty}
use Rattle.fitch_file.proofs.Sentences.{sentence_laws}
use Rattle.fitch_file.specs.declared.task.Task.{Task}
use Rattle.proof_check.specs.declared.verdict.LineFault.{LineFault}
use Rattle.proof_check.specs.declared.verdict.LineFault.TheVariants.{GoalNotReached}
use Rattle.proof_check.specs.declared.verdict.Verdict.{Verdict}
use Rattle.proof_check.specs.declared.verdict.Verdict.TheVariants.{Wrong, Unreadable}
use Rattle.proof_check.specs.Failing.{is_allowed, answers, IsLineFailure, IsLineFault, Passes, fault_of}
use Rattle.proof_check.specs.Laws.{OneVerdict}
use Rattle.proof_check.proofs.Tautologies.{answer_once}
use Rattle.proof_check.specs.Judged.{AllPass, FailsFirst, IsJudged, is_correct, fails_first, misses_goal, of_proof, of_faulty}

-- a line has at most one first failure
one_failure : (task : Task) (x : Placed) (o q : Option (Failure LineFault)) → IsLineFailure task x o → IsLineFailure task x q → o ≡ q
one_failure task x o q h k = one_first_failure (is_allowed task.allowed) answers task.premises x o q answer_once h k

-- and at most one fault
one_fault : (task : Task) (x : Placed) (o q : Option LineFault) → IsLineFault task x o → IsLineFault task x q → o ≡ q
one_fault task x None None h k = refl
one_fault task x None (Some g) h (e, l, i) = let f = one_failure task x None (Some e) h l in cc
one_fault task x (Some g) None (e, l, i) k = let f = one_failure task x (Some e) None l k in cc
one_fault task x (Some f) (Some g) (d, h, i) (e, l, j) =
    let n : d ≡ e = (let m = one_failure task x (Some d) (Some e) h l in cc) in
    ap Some (i ∙ ap fault_of n ∙ sym j)

numbers_above : (k : ℕ) (xs : List Placed) (ls : List FlatLine) → map (λ (x : Placed). x.number) xs ≡ numbers k ls → AllByRecursion (λ (x : Placed). k ≤ x.number) xs
unfolding numbers
numbers_above k [] ls e = tt
numbers_above k (x ∷ xs) [] e = cc
numbers_above k (x ∷ xs) (l ∷ ls) e =
    let n : x.number ≡ k = cc in
    let es : map (λ (y : Placed). y.number) xs ≡ numbers (k + 1) ls = cc in
    (omega (arith, n), weaker k xs (numbers_above (k + 1) xs ls es))
  where
    weaker : (j : ℕ) (ys : List Placed) → AllByRecursion (λ (y : Placed). j + 1 ≤ y.number) ys → AllByRecursion (λ (y : Placed). j ≤ y.number) ys
    weaker j ys h = all_turn (λ (y : Placed). j + 1 ≤ y.number) (λ (y : Placed). j ≤ y.number) (λ y g. omega (arith, g)) ys h

-- two lines with one number are one line
one_line : (k : ℕ) (xs : List Placed) (ls : List FlatLine) → map (λ (x : Placed). x.number) xs ≡ numbers k ls → (x y : Placed) → Contains xs x → Contains xs y → x.number ≡ y.number → x ≡ y
unfolding numbers
one_line k [] ls e x y (i, h, f) d n = absurd (omega (arith, h))
one_line k (z ∷ xs) [] e x y c d n = cc
one_line k (z ∷ xs) (l ∷ ls) e x y c d n =
    let m : z.number ≡ k = cc in
    let es : map (λ (v : Placed). v.number) xs ≡ numbers (k + 1) ls = cc in
    let above : AllByRecursion (λ (v : Placed). k + 1 ≤ v.number) xs = numbers_above (k + 1) xs ls es in
    contains_cases (x ≡ y) z x xs
    (λ i. contains_cases (x ≡ y) z y xs (λ j. sym i ∙ j)
    (λ j. absurd (omega (arith, all_each (λ (v : Placed). k + 1 ≤ v.number) xs y above j, n, m, ap (λ (v : Placed). v.number) i))) d)
    (λ i. contains_cases (x ≡ y) z y xs
    (λ j. absurd (omega (arith, all_each (λ (v : Placed). k + 1 ≤ v.number) xs x above i, n, m, ap (λ (v : Placed). v.number) j)))
    (λ j. one_line (k + 1) xs ls es x y i j n) d) c

same_line : (p : Items) (x y : Placed) → Contains (lines_of p) x → Contains (lines_of p) y → x.number ≡ y.number → x ≡ y
same_line p = one_line 1 (lines_of p) (flatten 1 p) (placed_numbers p outside 1 1)

-- where each line passes, none fails
pass_or_fail : (task : Task) (p : Items) (n : ℕ) (f : LineFault) → AllPass task p → FailsFirst task p n f → ⊥
pass_or_fail task p n f all h = let e = one_fault task h.line None (Some f) (all_each (Passes task) (lines_of p) h.line all h.there) h.fails in cc

-- an earlier line fails that was to pass
not_before : (task : Task) (p : Items) (n m : ℕ) (f g : LineFault) → FailsFirst task p n f → FailsFirst task p m g → n < m → ⊥
not_before task p n m f g h k l =
    let pass = all_each (λ (x : Placed). x.number < m → Passes task x) (lines_of p) h.line k.before h.there (omega (arith, h.number, l)) in
    let e = one_fault task h.line None (Some f) pass h.fails in cc

one_first : (task : Task) (p : Items) (n m : ℕ) (f g : LineFault) → FailsFirst task p n f → FailsFirst task p m g → Wrong n f ≡ Wrong m g
one_first task p n m f g h k = go (cases_lt n m)
  where
    same : n ≡ m → Wrong n f ≡ Wrong m g
    same e =
        let x : h.line ≡ k.line = same_line p h.line k.line h.there k.there (h.number ∙ e ∙ sym k.number) in
        let i = one_fault task k.line (Some f) (Some g) (subst (λ y. IsLineFault task y (Some f)) x h.fails) k.fails in
        ap₂ Wrong e (let j : f ≡ g = cc in j)

    later : (n ≡ m) ⊎ (m < n) → Wrong n f ≡ Wrong m g
    later (inl e) = same e
    later (inr l) = absurd (not_before task p m n g f k h l)

    turn : (m ≡ n) ⊎ (m < n) → (n ≡ m) ⊎ (m < n)
    turn (inl e) = inl (sym e)
    turn (inr l) = inr l

    go : (n < m) ⊎ (m ≤ n) → Wrong n f ≡ Wrong m g
    go (inl l) = absurd (not_before task p n m f g h k l)
    go (inr l) = later (turn (eq-or-lt_of_le l))

one_judgement : (task : Task) (p : Items) (v w : Verdict) → IsJudged task p v → IsJudged task p w → v ≡ w
one_judgement _ _ _ _ (is_correct task p h) (is_correct _ _ k) = refl
one_judgement _ _ _ _ (is_correct task p h) (fails_first _ _ n f k) = absurd (pass_or_fail task p n f h.pass k)
one_judgement _ _ _ _ (is_correct task p h) (misses_goal _ _ n k) = absurd (k.missed h.reached)
one_judgement _ _ _ _ (fails_first task p n f h) (is_correct _ _ k) = absurd (pass_or_fail task p n f k.pass h)
one_judgement _ _ _ _ (fails_first task p n f h) (fails_first _ _ m g k) = one_first task p n m f g h k
one_judgement _ _ _ _ (fails_first task p n f h) (misses_goal _ _ m k) = absurd (pass_or_fail task p n f k.pass h)
one_judgement _ _ _ _ (misses_goal task p n h) (is_correct _ _ k) = absurd (h.missed k.reached)
one_judgement _ _ _ _ (misses_goal task p n h) (fails_first _ _ m g k) = absurd (pass_or_fail task p m g h.pass k)
one_judgement _ _ _ _ (misses_goal task p n h) (misses_goal _ _ m k) = ap (λ i. Wrong i GoalNotReached) (h.last ∙ sym k.last)

spelled_once : (text : List ℕ) (ls ms : List FlatLine) → SpellsProof text ls → SpellsProof text ms → ls ≡ ms
spelled_once = proof_once sentence_laws

-- a text has at most one verdict for a task
pub verdict_once : OneVerdict
verdict_once _ _ _ _ (of_proof task text p v t h) (of_proof _ _ q w u k) =
    let e : p ≡ q = one_proof p q t.proper u.proper (spelled_once text (flatten 1 p) (flatten 1 q) t.spells u.spells) in
    one_judgement task q v w (subst (λ r. IsJudged task r v) e h) k
verdict_once _ _ _ _ (of_proof task text p v t h) (of_faulty _ _ n f k) = absurd (proof_not_faulty sentence_laws k (flatten 1 p) t.spells)
verdict_once _ _ _ _ (of_faulty task text n f h) (of_proof _ _ q w u k) = absurd (proof_not_faulty sentence_laws h (flatten 1 q) u.spells)
verdict_once _ _ _ _ (of_faulty task text n f h) (of_faulty _ _ m g k) = let e = first_fault_once sentence_laws h m g k in ap₂ Unreadable e.number e.is
