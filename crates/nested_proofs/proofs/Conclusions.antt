-- The sentence that a subproof ends in, found from its end.
use Rattle.std.proofs.Common.{◌≡◌, ℕ, zero, suc, ◌+◌, ◌-◌, ◌<◌, ◌≤◌, List, [], ◌∷◌, length, get_or, take, drop, sym, ap, ◌∙◌, arith, cond, Option, Some, eq-eqb}
use Rattle.std.specs.Prelude.{◌==◌, slice_get}
use Rattle.std.proofs.lemmas.Bool.{ne_eqb}
use Rattle.fol_core.specs.declared.sent.Sent.{Sent}
use Rattle.deriv_laws.specs.declared.line.FlatLine.{FlatLine}
use Rattle.nested_proofs.specs.Levels.{last_at}
use Rattle.nested_proofs.specs.ReadOff.{ends_in, begun_by, subproof_between, concluded_by}
use Rattle.nested_proofs.proofs.LastBelow.{get_later}
use Rattle.nested_proofs.proofs.Reading.{line_at}

last_more : (d : ℕ) (b : Option Sent) (m : ℕ) (xs : List FlatLine) (x : FlatLine) → slice_get xs m ≡ Some x → last_at d b (take (suc m) xs) ≡ cond (x.depth == d) x.sentence (last_at d b (take m xs))
last_more d b m [] x e = cc
last_more d b zero (y ∷ ys) x e = let q : y ≡ x = cc in ap (λ (z : FlatLine). cond (z.depth == d) z.sentence b) q
last_more d b (suc m) (y ∷ ys) x e = last_more d (cond (y.depth == d) y.sentence b) m ys x e

module _ (ls : List FlatLine) (n : ℕ) (l : FlatLine) (h : 0 < n) (w : n ≤ length ls) (e : l ≡ get_or ls (n - 1) l) where
  ends : (k : ℕ) → concluded_by (subproof_between ls n k) ≡ ends_in l (take (k - n) (drop n ls))
  ends k = ap (λ o. concluded_by (begun_by ls n k o)) (line_at ls n l h w e)

  -- a subproof of one line ends in its own sentence
  pub ends_at_once : concluded_by (subproof_between ls n n) ≡ l.sentence
  ends_at_once = ends n ∙ ap (λ k. ends_in l (take k (drop n ls))) (let z : n - n ≡ 0 = omega arith in z)

  module _ (k : ℕ) (x : FlatLine) (after : n < k) (within : k ≤ length ls) (f : x ≡ get_or ls (k - 1) x) where
    more : concluded_by (subproof_between ls n k) ≡ cond (x.depth == l.depth) x.sentence (ends_in l (take (k - 1 - n) (drop n ls)))
    more =
        ends k ∙ ap (λ i. ends_in l (take i (drop n ls))) (let q : k - n ≡ suc (k - 1 - n) = omega (arith, after) in q)
        ∙ last_more l.depth l.sentence (k - 1 - n) (drop n ls) x
        (get_later n (k - 1 - n) ls ∙ ap (slice_get ls) (let q : n + (k - 1 - n) ≡ k - 1 = omega (arith, after) in q) ∙ line_at ls k x (omega (arith, after)) within f)

    -- it ends in its last line, where this line is of its own depth
    pub ends_with : x.depth ≡ l.depth → concluded_by (subproof_between ls n k) ≡ x.sentence
    ends_with q = more ∙ ap (λ b. cond b x.sentence (ends_in l (take (k - 1 - n) (drop n ls)))) (eq-eqb x.depth l.depth q)

    -- another last line is passed over
    pub passes_over : (x.depth ≡ l.depth → ⊥) → concluded_by (subproof_between ls n k) ≡ concluded_by (subproof_between ls n (k - 1))
    passes_over q = more ∙ ap (λ b. cond b x.sentence (ends_in l (take (k - 1 - n) (drop n ls)))) (ne_eqb x.depth l.depth q) ∙ sym (ends (k - 1))
