-- A subproof is visible by the levels of the lines between exactly where it is in scope.
use Rattle.std.proofs.Common.{◌≡◌, ℕ, ◌+◌, ◌-◌, ◌<◌, List, [], ◌∷◌, take, drop, refl, ap, sym, ◌∙◌, Option, Some, None, Bool, true, false, arith, append-nil}
use Rattle.std.specs.Prelude.{nat_lt, cond, ◌&&◌, ◌==◌}
use Rattle.std.specs.List.{AllByRecursion}
use Rattle.std.proofs.lemmas.Bool.{le-ltb, eqb-true}
use Rattle.deriv_laws.specs.declared.line.FlatLine.{FlatLine}
use Rattle.nested_proofs.specs.Items.{flatten, opens}
use Rattle.nested_proofs.specs.Placed.{Placed, outside, lines_of}
use Rattle.nested_proofs.specs.Scope.{Subproof, subproof_at}
use Rattle.nested_proofs.specs.Levels.{level, Mark, Reach, reaches, subproof_of, subproofs_before}
use Rattle.nested_proofs.specs.Visible.{stays, closed_by, subproof_over, visible_subproof, SubproofsByLevels}
use Rattle.nested_proofs.proofs.SubproofLevels.{subproofs_same}
use Rattle.nested_proofs.proofs.VisibleSentences.{mark_at, keep_if, Falls, none_below, from_line, look, all_look, all_fall, both_turn, carry, reach_numbers, placed_numbers}

closed_at : ℕ → ℕ → Option Mark → Option Subproof
closed_at m j None = None
closed_at m j (Some x) = closed_by m j x

sub_marked_at : (n m j : ℕ) (x : Mark) (ms : List Mark) (a b c : Bool) → (x.number == n) ≡ a → Falls x.number ms →
    subproof_at n m (subproofs_before j ms) ≡ closed_at m j (mark_at n ms) →
    ((subproof_of x).last == m) ≡ c →
    subproof_at n m (cond b (subproof_of x ∷ subproofs_before j ms) (subproofs_before j ms)) ≡ cond a (cond b (cond c (Some (subproof_of x)) None) None) (closed_at m j (mark_at n ms))
unfolding closed_at
sub_marked_at n m j x ms true true true e f ih g =
    ap (λ p. cond (p && ((subproof_of x).last == m)) (Some (subproof_of x)) (subproof_at n m (subproofs_before j ms))) e ∙ ap (λ p. cond p (Some (subproof_of x)) (subproof_at n m (subproofs_before j ms))) g
sub_marked_at n m j x ms true true false e f ih g =
    ap (λ p. cond (p && ((subproof_of x).last == m)) (Some (subproof_of x)) (subproof_at n m (subproofs_before j ms))) e ∙ ap (λ p. cond p (Some (subproof_of x)) (subproof_at n m (subproofs_before j ms))) g
    ∙ ih ∙ ap (λ i. closed_at m j (mark_at i ms)) (sym (eqb-true x.number n e)) ∙ ap (closed_at m j) (none_below x.number ms f)
sub_marked_at n m j x ms true false c e f ih g = ih ∙ ap (λ i. closed_at m j (mark_at i ms)) (sym (eqb-true x.number n e)) ∙ ap (closed_at m j) (none_below x.number ms f)
sub_marked_at n m j x ms false true c e f ih g = ap (λ p. cond (p && ((subproof_of x).last == m)) (Some (subproof_of x)) (subproof_at n m (subproofs_before j ms))) e ∙ ih
sub_marked_at n m j x ms false false c e f ih g = ih

pull : (m j : ℕ) (a : Bool) (x : Mark) (o : Option Mark) → cond a (closed_by m j x) (closed_at m j o) ≡ closed_at m j (cond a (Some x) o)
unfolding closed_at
pull m j true x o = refl
pull m j false x o = refl

sub_marked : (n m j k : ℕ) (ms : List Mark) → Falls k ms → subproof_at n m (subproofs_before j ms) ≡ closed_at m j (mark_at n ms)
unfolding closed_at
sub_marked n m j k [] f = refl
sub_marked n m j k (x ∷ ms) f =
    sub_marked_at n m j x ms (x.number == n) (opens x.line.rule && nat_lt (subproof_of x).last j) ((subproof_of x).last == m) refl f.1 (sub_marked n m j x.number ms f.1) refl
    ∙ pull m j (x.number == n) x (mark_at n ms)

over_subs : (n m j : ℕ) (ls : List FlatLine) → closed_at m j (from_line level n ls [] j) ≡ cond (nat_lt n j) (subproof_over n m j ls) None
unfolding closed_at from_line
over_subs n m j [] = go (nat_lt n j)
  where
    go : (b : Bool) → None ≡ cond b (subproof_over n m j []) None
    go true = refl
    go false = refl
over_subs n m j (l ∷ ls) = ap (λ (xs : List FlatLine). closed_at m j (cond (nat_lt n j && stays (level l) (take (j - n) ls)) (Some (let x : Mark = record { number = n; line = l; later = xs } in x)) None)) (append-nil ls) ∙ go (nat_lt n j) (stays (level l) (take (j - n) ls))
  where
    go : (a b : Bool) → closed_at m j (cond (a && b) (Some (let x : Mark = record { number = n; line = l; later = ls } in x)) None) ≡ cond a (cond b (closed_by m j (record { number = n; line = l; later = ls })) None) None
    go true true = refl
    go true false = refl
    go false b = refl

reach_subs : (n m : ℕ) (lines : List FlatLine) → 0 < n → AllByRecursion (λ (r : Reach). subproof_at n m (subproofs_before r.number r.marks) ≡ visible_subproof lines n m r.number) (reaches level 1 [] lines [])
unfolding look
reach_subs n m lines h =
    both_turn (λ (r : Reach). Falls r.number r.marks) (λ (r : Reach). mark_at n r.marks ≡ look level n 1 [] lines [] r.number) (λ (r : Reach). subproof_at n m (subproofs_before r.number r.marks) ≡ visible_subproof lines n m r.number)
    (λ r f e. sub_marked n m r.number r.number r.marks f ∙ ap (closed_at m r.number) e
    ∙ ap (λ b. closed_at m r.number (cond b (keep_if (λ x. stays (level x.line) (take (r.number + 1 - 1) lines)) None) (from_line level n (drop (n - 1) lines) [] r.number))) (le-ltb n 1 (omega arith))
    ∙ over_subs n m r.number (drop (n - 1) lines)) (reaches level 1 [] lines [])
    (all_fall level 1 [] lines [] tt) (all_look level n 1 [] lines [] tt)

pub visible_subproof_is_in_scope : SubproofsByLevels
visible_subproof_is_in_scope p n m o h =
    carry (λ (r : Reach). r.number) (λ (x : Placed). x.number) (λ r. subproofs_before r.number r.marks) (λ x. x.around.scope.subproofs) (λ j xs. subproof_at n m xs ≡ visible_subproof (flatten 1 p) n m j)
    (reaches level 1 [] (flatten 1 p) []) (lines_of p)
    (reach_numbers level 1 [] (flatten 1 p) [] ∙ sym (placed_numbers p outside 1 1))
    (subproofs_same p 1 1 outside [] [] o tt (λ j a b. refl)) (reach_subs n m (flatten 1 p) h)
