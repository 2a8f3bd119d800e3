-- Where a list has been gone through, nothing is left to be added.
use Rattle.std.proofs.Common.{◌≡◌, ℕ, ◌+◌, ◌-◌, ◌^◌, ◌<◌, ◌≤◌, List, [], ◌∷◌, length, drop, map, ap, sym, ◌∙◌, arith, length-drop}
use Rattle.std.specs.Prelude.{min}
use Rattle.std.proofs.lemmas.List.{nil_from_length}
use Rattle.desk_keeper.specs.declared.rows.OrderRow.{OrderRow}
use Rattle.desk_keeper.specs.declared.rows.SubmissionRow.{SubmissionRow}
use Rattle.desk_machine.specs.Books.{total}
use Rattle.desk_machine.specs.Ordering.{unordered_from}

nothing_left : {X : Type 0} (xs : List X) (i : ℕ) → length xs ≤ i → drop i xs ≡ []
nothing_left xs i past = nil_from_length (drop i xs) (omega (arith, length-drop i xs))

-- A sum that ends with its type.
pub all_added : {X : Type 0} (f : X → ℕ) (xs : List X) (i n t : ℕ) → min (n + total (map f (drop i xs))) (2 ^ 64 - 1) ≡ t → length xs ≤ i → n < 2 ^ 64 → n ≡ t
all_added f xs i n t e past fits =
    let nil : min (n + 0) (2 ^ 64 - 1) ≡ t = ap (λ ys. min (n + total (map f ys)) (2 ^ 64 - 1)) (sym (nothing_left xs i past)) ∙ e in
    omega (arith, nil, fits)

-- A count that ends with its type.
pub all_counted : (orders : List OrderRow) (name : List ℕ) (version : ℕ) (rows : List SubmissionRow) (i n t : ℕ)
    → min (n + length (unordered_from orders name version (i + 1) (drop i rows))) (2 ^ 32 - 1) ≡ t → length rows ≤ i → n < 2 ^ 32 → n ≡ t
all_counted orders name version rows i n t e past fits =
    let nil : min (n + 0) (2 ^ 32 - 1) ≡ t = ap (λ ys. min (n + length (unordered_from orders name version (i + 1) ys)) (2 ^ 32 - 1)) (sym (nothing_left rows i past)) ∙ e in
    omega (arith, nil, fits)
