-- The lines of a nested proof are numbered from 1 on, one by one.
use Rattle.std.proofs.Common.{◌≡◌, ℕ, ◌+◌, ◌≤◌, ◌<◌, List, ◌∷◌, ◌++◌, arith, ◌⊎◌, inl, inr, Contains}
use Rattle.std.proofs.lemmas.Bool.{cases_lt}
use Rattle.std.proofs.Math.Nat.{eq-or-lt_of_le}
use Rattle.std.specs.List.{AllByRecursion}
use Rattle.deriv_laws.proofs.Lists.{all_both, all_turn}
use Rattle.deriv_laws.proofs.Members.{contains_here, contains_there, contains_left, contains_right}
use Rattle.nested_proofs.specs.Items.{Items, Done, Step, Sub, size, step_line, opening_line}
use Rattle.nested_proofs.specs.Placed.{Around, Placed, placed, after_step, inside, after_sub}

-- a number from k on, of so many
abbrev pub Among : ℕ → ℕ → Placed → Type 0
Among k count x = (k ≤ x.number) × (x.number < k + count)

pub numbers_among : (a : Around) (k d : ℕ) (items : Items) → AllByRecursion (Among k (size items)) (placed a k d items)
numbers_among a k d Done = tt
numbers_among a k d (Step s rule cites rest) = (
  (omega arith, omega arith),
  all_turn (Among (k + 1) (size rest)) (Among k (1 + size rest)) (λ x h. (omega (arith, h.0), omega (arith, h.1))) (placed (after_step k s a) (k + 1) d rest) (numbers_among (after_step k s a) (k + 1) d rest),
)
numbers_among a k d (Sub o body rest) = (
  (omega arith, omega arith),
  all_both (Among k (1 + size body + size rest)) (placed (inside k o a) (k + 1) (d + 1) body) (placed (after_sub k o body a) (k + 1 + size body) d rest)
      (all_turn (Among (k + 1) (size body)) (Among k (1 + size body + size rest)) (λ x h. (omega (arith, h.0), omega (arith, h.1))) (placed (inside k o a) (k + 1) (d + 1) body) (numbers_among (inside k o a) (k + 1) (d + 1) body))
      (all_turn (Among (k + 1 + size body) (size rest)) (Among k (1 + size body + size rest)) (λ x h. (omega (arith, h.0), omega (arith, h.1))) (placed (after_sub k o body a) (k + 1 + size body) d rest) (numbers_among (after_sub k o body a) (k + 1 + size body) d rest)),
)

-- the line with a number
pub record HasNumber (xs : List Placed) (n : ℕ) : Type 0 where
  pub line : Placed
  pub there : Contains xs line
  pub number : line.number ≡ n

later : (y : Placed) (xs : List Placed) (n : ℕ) → HasNumber xs n → HasNumber (y ∷ xs) n
later y xs n h = record { line = h.line; there = contains_there y h.line xs h.there; number = h.number }

in_left : (xs ys : List Placed) (n : ℕ) → HasNumber xs n → HasNumber (xs ++ ys) n
in_left xs ys n h = record { line = h.line; there = contains_left xs ys h.line h.there; number = h.number }

in_right : (xs ys : List Placed) (n : ℕ) → HasNumber ys n → HasNumber (xs ++ ys) n
in_right xs ys n h = record { line = h.line; there = contains_right xs ys h.line h.there; number = h.number }

here_or_later : (y : Placed) (xs : List Placed) (n : ℕ) → (y.number ≡ n) ⊎ (y.number < n) → (y.number < n → HasNumber xs n) → HasNumber (y ∷ xs) n
here_or_later y xs n (inl e) f = record { line = y; there = contains_here y xs; number = e }
here_or_later y xs n (inr h) f = later y xs n (f h)

one_of_two : (xs ys : List Placed) (m n : ℕ) → (n < m) ⊎ (m ≤ n) → (n < m → HasNumber xs n) → (m ≤ n → HasNumber ys n) → HasNumber (xs ++ ys) n
one_of_two xs ys m n (inl h) f g = in_left xs ys n (f h)
one_of_two xs ys m n (inr h) f g = in_right xs ys n (g h)

pub line_with : (a : Around) (k d : ℕ) (items : Items) (n : ℕ) → k ≤ n → n < k + size items → HasNumber (placed a k d items) n
line_with a k d Done n h l = absurd (omega (arith, h, l))
line_with a k d (Step s rule cites rest) n h l =
    here_or_later (record { number = k; line = step_line d s rule cites; around = a }) (placed (after_step k s a) (k + 1) d rest) n (eq-or-lt_of_le h)
    (λ g. line_with (after_step k s a) (k + 1) d rest n (omega (arith, g)) (omega (arith, l)))
line_with a k d (Sub o body rest) n h l =
    here_or_later (record { number = k; line = opening_line (d + 1) o; around = a }) (placed (inside k o a) (k + 1) (d + 1) body ++ placed (after_sub k o body a) (k + 1 + size body) d rest) n (eq-or-lt_of_le h)
    (λ g. one_of_two (placed (inside k o a) (k + 1) (d + 1) body) (placed (after_sub k o body a) (k + 1 + size body) d rest) (k + 1 + size body) n (cases_lt n (k + 1 + size body))
    (λ v. line_with (inside k o a) (k + 1) (d + 1) body n (omega (arith, g)) (omega (arith, v)))
    (λ v. line_with (after_sub k o body a) (k + 1 + size body) d rest n v (omega (arith, l))))
