-- From the test of each line to the verdict.
use Rattle.std.proofs.Common.{◌≡◌, ℕ, ◌+◌, ◌≤◌, ◌<◌, List, [], ◌∷◌, length, ap, sym, ◌∙◌, arith, ◌⊎◌, inl, inr, Some, None}
use Rattle.std.proofs.Math.Nat.{eq-or-lt_of_le}
use Rattle.std.specs.List.{AllByRecursion}
use Rattle.fitch_file.specs.declared.task.Task.{Task}
use Rattle.deriv_laws.specs.declared.line.FlatLine.{FlatLine}
use Rattle.deriv_laws.proofs.Lists.{all_turn}
use Rattle.deriv_laws.proofs.Members.{all_each}
use Rattle.nested_proofs.specs.Items.{Items, size, flatten}
use Rattle.nested_proofs.specs.Placed.{Placed, lines_of, outside}
use Rattle.nested_proofs.specs.AtLine.{AtLine}
use Rattle.nested_proofs.proofs.Levels.{flat_size}
use Rattle.proof_check.specs.declared.verdict.LineFault.{LineFault}
use Rattle.proof_check.specs.Failing.{Passes, IsLineFault}
use Rattle.proof_check.specs.Judged.{AllPass, FailsFirst}
use Rattle.proof_check.specs.Readers.{OfLines, PassBefore}
use Rattle.proof_check.proofs.Numbers.{Among, numbers_among, line_with}

-- two facts of each member
both_of : {X : Type 0} (P Q R : X → Type 0) (f : (x : X) → P x → Q x → R x) (xs : List X) → AllByRecursion P xs → AllByRecursion Q xs → AllByRecursion R xs
both_of P Q R f [] h k = tt
both_of P Q R f (x ∷ xs) h k = (f x h.0 k.0, both_of P Q R f xs h.1 k.1)

numbered : (p : Items) → AllByRecursion (Among 1 (size p)) (lines_of p)
numbered p = numbers_among outside 1 1 p

size_is : (lines : List FlatLine) (p : Items) → lines ≡ flatten 1 p → size p ≡ length lines
size_is lines p e = sym (flat_size 1 p) ∙ ap length (sym e)

-- before the first line nothing is to be passed
pub none_before : (task : Task) (lines : List FlatLine) → PassBefore task lines 1
none_before task lines p o e = all_turn (Among 1 (size p)) (λ (x : Placed). x.number < 1 → Passes task x) (λ x h n. absurd (omega (arith, h.0, n))) (lines_of p) (numbered p)

-- one line more passes
pub one_more : (task : Task) (lines : List FlatLine) (n : ℕ) → PassBefore task lines n → AtLine lines n (λ x. IsLineFault task x None) → PassBefore task lines (n + 1)
one_more task lines n before here p o e =
    both_of (λ (x : Placed). x.number < n → Passes task x) (λ (x : Placed). x.number ≡ n → Passes task x) (λ (x : Placed). x.number < n + 1 → Passes task x)
    (λ x f g h. go x f g (eq-or-lt_of_le (omega (arith, h)))) (lines_of p) (before p o e) (here p o e)
  where
    go : (x : Placed) → (x.number < n → Passes task x) → (x.number ≡ n → Passes task x) → (x.number ≡ n) ⊎ (x.number < n) → Passes task x
    go x f g (inl h) = g h
    go x f g (inr h) = f h

-- where each line up to the last passes, all do
pub all_pass : (task : Task) (lines : List FlatLine) → PassBefore task lines (length lines + 1) → OfLines lines (AllPass task)
all_pass task lines before p o e =
    both_of (Among 1 (size p)) (λ (x : Placed). x.number < length lines + 1 → Passes task x) (Passes task) (λ x h f. f (omega (arith, h.1, size_is lines p e))) (lines_of p) (numbered p) (before p o e)

-- the first line that fails
pub fails_first : (task : Task) (lines : List FlatLine) (n : ℕ) (fault : LineFault) → 0 < n → n ≤ length lines → PassBefore task lines n → AtLine lines n (λ x. IsLineFault task x (Some fault)) →
    OfLines lines (λ p. FailsFirst task p n fault)
fails_first task lines n fault low high before here p o e =
    let w = line_with outside 1 1 p n (omega (arith, low)) (omega (arith, high, size_is lines p e)) in
    record {
      before = before p o e;
      line = w.line;
      there = w.there;
      number = w.number;
      fails = all_each (λ (x : Placed). x.number ≡ n → IsLineFault task x (Some fault)) (lines_of p) w.line (here p o e) w.there w.number;
    }
