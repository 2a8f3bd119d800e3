-- There are no more letters than nodes.
use Rattle.std.proofs.Common.{◌≡◌, ℕ, ◌+◌, ◌≤◌, List, [], ◌∷◌, length, map, ap, Bool, true, false, arith, length-append}
use Rattle.std.specs.Prelude.{not, cond, filter}
use Rattle.std.specs.List.{flat_map, AllByRecursion}
use Rattle.fol_core.specs.declared.sent.Sent.{Sent}
use Rattle.fol_core.specs.Size.{total, nodes, term_nodes}
use Rattle.fol_core.proofs.Sizes.{nodes_atom, nodes_eq, nodes_bottom, nodes_not, nodes_and, nodes_or, nodes_if, nodes_iff, nodes_all, nodes_ex}
use Rattle.deriv_laws.specs.Discharge.{alike}
use Rattle.taut_con.specs.Letters.{letter_occurrences, letters, distinct}
use Rattle.taut_con.proofs.Equations.{letters_atom, letters_eq, letters_bottom, letters_not, letters_and, letters_or, letters_if, letters_iff, letters_all, letters_ex}
use Rattle.taut_con.proofs.Induction.{by_form}

-- A sentence has no more letters than nodes.
abbrev IsWithin : Sent → Type 0
IsWithin p = length (letter_occurrences p) ≤ nodes p

one_letter : (p : Sent) (k : ℕ) → letter_occurrences p ≡ p ∷ [] → nodes p ≡ 1 + k → IsWithin p
one_letter p k e h = omega (arith, ap length e, h)

parts_within : (ps : List Sent) → AllByRecursion IsWithin ps → length (flat_map letter_occurrences ps) ≤ total (map nodes ps)
parts_within [] h = omega arith
parts_within (p ∷ ps) h = omega (arith, h.0, parts_within ps h.1, length-append (letter_occurrences p) (flat_map letter_occurrences ps))

letters_within : (p : Sent) → IsWithin p
letters_within = by_form IsWithin (record {
  atom = λ p ts. one_letter _ (total (map term_nodes ts)) (letters_atom p ts) (nodes_atom p ts);
  equation = λ a b. omega (arith, ap length (letters_eq a b), nodes_eq a b);
  bottom = omega (arith, ap length letters_bottom, nodes_bottom);
  negation = λ p h. omega (arith, h, ap length (letters_not p), nodes_not p);
  conjunction = λ ps h. omega (arith, parts_within ps h, ap length (letters_and ps), nodes_and ps);
  disjunction = λ ps h. omega (arith, parts_within ps h, ap length (letters_or ps), nodes_or ps);
  conditional = λ p q h k. omega (arith, h, k, ap length (letters_if p q), length-append (letter_occurrences p) (letter_occurrences q), nodes_if p q);
  biconditional = λ p q h k. omega (arith, h, k, ap length (letters_iff p q), length-append (letter_occurrences p) (letter_occurrences q), nodes_iff p q);
  universal = λ x p h. one_letter _ (nodes p) (letters_all x p) (nodes_all x p);
  existential = λ x p h. one_letter _ (nodes p) (letters_ex x p) (nodes_ex x p);
})

all_within : (ps : List Sent) → length (flat_map letter_occurrences ps) ≤ total (map nodes ps)
all_within [] = omega arith
all_within (p ∷ ps) = omega (arith, letters_within p, all_within ps, length-append (letter_occurrences p) (flat_map letter_occurrences ps))

no_longer : (x : Sent) (b : Bool) (ys xs : List Sent) → length ys ≤ length xs → length (cond b (x ∷ ys) ys) ≤ length (x ∷ xs)
no_longer x true ys xs h = omega (arith, h)
no_longer x false ys xs h = omega (arith, h)

filter_shorter : (f : Sent → Bool) (xs : List Sent) → length (filter f xs) ≤ length xs
filter_shorter f [] = omega arith
filter_shorter f (x ∷ xs) = no_longer x (f x) (filter f xs) xs (filter_shorter f xs)

distinct_shorter : (ps : List Sent) → length (distinct ps) ≤ length ps
distinct_shorter [] = omega arith
distinct_shorter (p ∷ ps) = omega (arith, filter_shorter (λ q. not (alike p q)) (distinct ps), distinct_shorter ps)

pub letters_fewer : (ss : List Sent) → length (letters ss) ≤ total (map nodes ss)
letters_fewer ss = omega (arith, distinct_shorter (flat_map letter_occurrences ss), all_within ss)
