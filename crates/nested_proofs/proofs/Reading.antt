-- What flat lines say of a line's scope in their nested proof.
use Rattle.std.proofs.Common.{◌≡◌, ℕ, zero, suc, ◌+◌, ◌-◌, ◌<◌, ◌≤◌, List, [], ◌∷◌, length, get_or, map, refl, ap, sym, subst, ◌∙◌, arith, Some}
use Rattle.std.specs.Prelude.{slice_get}
use Rattle.std.specs.List.{AllByRecursion, range_with_len}
use Rattle.std.proofs.lemmas.Option.{slice_get-get_or}
use Rattle.deriv_laws.specs.declared.rule.Rule.{Rule}
use Rattle.deriv_laws.specs.declared.line.FlatLine.{FlatLine}
use Rattle.deriv_laws.proofs.Lists.{all_turn}
use Rattle.nested_proofs.specs.Items.{Items, flatten, AreProper}
use Rattle.nested_proofs.specs.Placed.{Placed, lines_of, outside}
use Rattle.nested_proofs.specs.Scope.{sentence_at, subproof_at}
use Rattle.nested_proofs.specs.Visible.{visible_sentence, visible_subproof}
use Rattle.nested_proofs.specs.AtLine.{AtLine, LinesArePlaced}
use Rattle.nested_proofs.proofs.VisibleSentences.{visible_is_in_scope, numbers, placed_numbers, placed_lines, both_turn}
use Rattle.nested_proofs.proofs.VisibleSubproofs.{visible_subproof_is_in_scope}

-- a placed line is line j of these lines, and what is in its scope is what is visible by the levels
pub record Agrees (lines : List FlatLine) (j : ℕ) (x : Placed) : Type 0 where
  pub line : slice_get lines (j - 1) ≡ Some x.line
  pub sentences : (i : ℕ) → 0 < i → sentence_at i x.around.scope.sentences ≡ visible_sentence lines i j
  pub subproofs : (n m : ℕ) → 0 < n → subproof_at n m x.around.scope.subproofs ≡ visible_subproof lines n m j

each : {X : Type 0} (P : ℕ → X → Type 0) (xs : List X) → ((i : ℕ) → 0 < i → AllByRecursion (P i) xs) → AllByRecursion (λ x. (i : ℕ) → 0 < i → P i x) xs
each P [] f = tt
each P (x ∷ xs) f = (λ i h. (f i h).0, each P xs (λ i h. (f i h).1))

each_two : {X : Type 0} (P : ℕ → ℕ → X → Type 0) (xs : List X) → ((n m : ℕ) → 0 < n → AllByRecursion (P n m) xs) → AllByRecursion (λ x. (n m : ℕ) → 0 < n → P n m x) xs
each_two P [] f = tt
each_two P (x ∷ xs) f = (λ n m h. (f n m h).0, each_two P xs (λ n m h. (f n m h).1))

-- the line with each number
pub numbered_lines : (k : ℕ) (xs : List Placed) (ls : List FlatLine) → map (λ (x : Placed). x.number) xs ≡ numbers k ls → map (λ (x : Placed). x.line) xs ≡ ls →
    AllByRecursion (λ (x : Placed). (k ≤ x.number) × (slice_get ls (x.number - k) ≡ Some x.line)) xs
unfolding numbers
numbered_lines k [] ls e f = tt
numbered_lines k (x ∷ xs) [] e f = cc
numbered_lines k (x ∷ xs) (l ∷ ls) e f =
    let n : x.number ≡ k = cc in
    let z : x.number - k ≡ 0 = omega (arith, n) in
    let v : x.line ≡ l = cc in
    let es : map (λ (y : Placed). y.number) xs ≡ numbers (k + 1) ls = cc in
    let fs : map (λ (y : Placed). y.line) xs ≡ ls = cc in (
      (omega (arith, n), ap (slice_get (l ∷ ls)) z ∙ ap Some (sym v)),
      all_turn (λ (y : Placed). (k + 1 ≤ y.number) × (slice_get ls (y.number - (k + 1)) ≡ Some y.line)) (λ (y : Placed). (k ≤ y.number) × (slice_get (l ∷ ls) (y.number - k) ≡ Some y.line))
          (λ y h. (omega (arith, h.0), ap (slice_get (l ∷ ls)) (let q : y.number - k ≡ suc (y.number - (k + 1)) = omega (arith, h.0) in q) ∙ h.1)) xs (numbered_lines (k + 1) xs ls es fs),
    )

agrees_in : (p : Items) (j : ℕ) → AreProper p → AllByRecursion (λ (x : Placed). x.number ≡ j → Agrees (flatten 1 p) j x) (lines_of p)
agrees_in p j o =
    both_turn (λ (x : Placed). (1 ≤ x.number) × (slice_get (flatten 1 p) (x.number - 1) ≡ Some x.line))
    (λ (x : Placed). ((i : ℕ) → 0 < i → sentence_at i x.around.scope.sentences ≡ visible_sentence (flatten 1 p) i x.number) × ((n m : ℕ) → 0 < n → subproof_at n m x.around.scope.subproofs ≡ visible_subproof (flatten 1 p) n m x.number))
    (λ (x : Placed). x.number ≡ j → Agrees (flatten 1 p) j x)
    (λ x a b e. subst (λ k. Agrees (flatten 1 p) k x) e (record { line = a.1; sentences = b.0; subproofs = b.1 })) (lines_of p)
    (numbered_lines 1 (lines_of p) (flatten 1 p) (placed_numbers p outside 1 1) (placed_lines p outside 1 1))
    (both_turn (λ (x : Placed). (i : ℕ) → 0 < i → sentence_at i x.around.scope.sentences ≡ visible_sentence (flatten 1 p) i x.number)
    (λ (x : Placed). (n m : ℕ) → 0 < n → subproof_at n m x.around.scope.subproofs ≡ visible_subproof (flatten 1 p) n m x.number)
    (λ (x : Placed). ((i : ℕ) → 0 < i → sentence_at i x.around.scope.sentences ≡ visible_sentence (flatten 1 p) i x.number) × ((n m : ℕ) → 0 < n → subproof_at n m x.around.scope.subproofs ≡ visible_subproof (flatten 1 p) n m x.number))
    (λ x a b. (a, b)) (lines_of p)
    (each (λ i (x : Placed). sentence_at i x.around.scope.sentences ≡ visible_sentence (flatten 1 p) i x.number) (lines_of p) (λ i h. visible_is_in_scope p i o h))
    (each_two (λ n m (x : Placed). subproof_at n m x.around.scope.subproofs ≡ visible_subproof (flatten 1 p) n m x.number) (lines_of p) (λ n m h. visible_subproof_is_in_scope p n m o h)))

-- at each line, the flat lines and the scope agree
pub agrees : (lines : List FlatLine) (j : ℕ) → AtLine lines j (Agrees lines j)
agrees lines j p o f = subst (λ ls. AllByRecursion (λ (x : Placed). x.number ≡ j → Agrees ls j x) (lines_of p)) (sym f) (agrees_in p j o)

-- what follows from a property at a line holds there
pub at_line : (lines : List FlatLine) (j : ℕ) (P Q : Placed → Type 0) → ((x : Placed) → P x → Q x) → AtLine lines j P → AtLine lines j Q
at_line lines j P Q t a p o f = all_turn (λ (x : Placed). x.number ≡ j → P x) (λ (x : Placed). x.number ≡ j → Q x) (λ x h n. t x (h n)) (lines_of p) (a p o f)

-- what follows at a line where the flat lines and the scope agree
pub where_agrees : (lines : List FlatLine) (j : ℕ) (Q : Placed → Type 0) → ((x : Placed) → Agrees lines j x → Q x) → AtLine lines j Q
where_agrees lines j Q t = at_line lines j (Agrees lines j) Q t (agrees lines j)

-- what holds of all lines holds of each
pub at_each : (P : FlatLine → Type 0) (ls : List FlatLine) (k : ℕ) (l : FlatLine) → AllByRecursion P ls → slice_get ls k ≡ Some l → P l
at_each P [] k l h e = cc
at_each P (x ∷ ls) zero l h e = subst P (let q : x ≡ l = cc in q) h.0
at_each P (x ∷ ls) (suc k) l h e = at_each P ls k l h.1 e

-- line j, read at its index
pub line_at : (ls : List FlatLine) (j : ℕ) (l : FlatLine) → 0 < j → j ≤ length ls → l ≡ get_or ls (j - 1) l → slice_get ls (j - 1) ≡ Some l
line_at ls j l h w e = slice_get-get_or ls (j - 1) l (omega (arith, h, w)) ∙ ap Some (sym e)

-- what holds of the rule of the line at the index holds of the placed line's
pub at_rule : (ls : List FlatLine) (j : ℕ) (l : FlatLine) (P : Rule → Type 0) → 0 < j → j ≤ length ls → l ≡ get_or ls (j - 1) l → P l.rule → AtLine ls j (λ x. P x.line.rule)
at_rule ls j l P h w e p = where_agrees ls j (λ x. P x.line.rule) (λ x a. let q : Some l ≡ Some x.line = sym (line_at ls j l h w e) ∙ a.line in subst (λ (y : FlatLine). P y.rule) (let v : l ≡ x.line = cc in v) p)

in_a_row : (k : ℕ) (ls : List FlatLine) → numbers k ls ≡ range_with_len k (length ls)
unfolding numbers
in_a_row k [] = refl
in_a_row k (l ∷ ls) = ap (λ ns. k ∷ ns) (in_a_row (k + 1) ls)

pub lines_are_placed : LinesArePlaced
lines_are_placed p = (placed_lines p outside 1 1, placed_numbers p outside 1 1 ∙ in_a_row 1 (flatten 1 p))
