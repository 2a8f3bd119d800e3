-- What a junction makes of a list of values, one more at a time.
use Rattle.std.proofs.Common.{◌≡◌, ℕ, zero, suc, ◌+◌, ◌<◌, ◌≤◌, Bool, List, [], length, take, get_or, refl, sym, ap, ap₂, ◌∙◌, arith, ◌∷◌}
use Rattle.std.specs.Prelude.{◌&&◌, ◌||◌}
use Rattle.std.specs.List.{list_all, list_any, range_with_len}
use Rattle.std.proofs.lemmas.List.FromFn.{length-range_with_len, get_or-range_with_len}
use Rattle.std.proofs.lemmas.List.Folds.{list_all_more, list_any_more}
use Rattle.worlds.specs.declared.block.Block.{Block}
use Rattle.world_truth.specs.declared.junction.Junction.{Junction}
use Rattle.world_truth.specs.declared.junction.Junction.TheVariants.{Every, Any}
use Rattle.world_truth.specs.inside.Tables.{joined, join_two, of_none}
use Rattle.worlds.specs.Worlds.{numbers}
use Rattle.world_truth.proofs.Numbers.{number_at_place, within, all_taken}

pub joined_none : {X : Type 0} (j : Junction) (f : X → Bool) → joined j f [] ≡ of_none j
joined_none Every f = refl
joined_none Any f = refl

pub joined_more : {X : Type 0} (j : Junction) (f : X → Bool) (xs : List X) (i : ℕ) (d : X) → i < length xs →
    joined j f (take (i + 1) xs) ≡ join_two j (joined j f (take i xs)) (f (get_or xs i d))
joined_more Every f xs i d l = list_all_more f xs i d l
joined_more Any f xs i d l = list_any_more f xs i d l

-- over the numbers of the blocks
pub joined_next : (j : Junction) (f : ℕ → Bool) (w : List Block) (i : ℕ) → i < length w →
    joined j f (take (i + 1) (numbers w)) ≡ join_two j (joined j f (take i (numbers w))) (f (i + 1))
joined_next j f w i l = joined_more j f (numbers w) i 0 (within w i l) ∙ ap (λ n. join_two j (joined j f (take i (numbers w))) (f n)) (number_at_place w i l)

pub joined_all : (j : Junction) (f : ℕ → Bool) (w : List Block) (i : ℕ) → length w ≤ i → joined j f (take i (numbers w)) ≡ joined j f (numbers w)
joined_all j f w i l = ap (joined j f) (all_taken w i l)

-- two functions that agree on two stretches of numbers, one by one
all_shifted : (f g : ℕ → Bool) (a b n : ℕ) → ((m : ℕ) → m < n → f (a + m) ≡ g (b + m)) → list_all f (range_with_len a n) ≡ list_all g (range_with_len b n)
all_shifted f g a b zero h = refl
all_shifted f g a b (suc n) h =
    ap₂ (λ x y. x && y) (ap f (omega arith) ∙ h 0 (omega arith) ∙ ap g (omega arith)) (all_shifted f g (a + 1) (b + 1) n (λ m l. ap f (omega arith) ∙ h (suc m) (omega (arith, l)) ∙ ap g (omega arith)))

any_shifted : (f g : ℕ → Bool) (a b n : ℕ) → ((m : ℕ) → m < n → f (a + m) ≡ g (b + m)) → list_any f (range_with_len a n) ≡ list_any g (range_with_len b n)
any_shifted f g a b zero h = refl
any_shifted f g a b (suc n) h =
    ap₂ (λ x y. x || y) (ap f (omega arith) ∙ h 0 (omega arith) ∙ ap g (omega arith)) (any_shifted f g (a + 1) (b + 1) n (λ m l. ap f (omega arith) ∙ h (suc m) (omega (arith, l)) ∙ ap g (omega arith)))

pub joined_shifted : (j : Junction) (f g : ℕ → Bool) (a b n : ℕ) → ((m : ℕ) → m < n → f (a + m) ≡ g (b + m)) → joined j f (range_with_len a n) ≡ joined j g (range_with_len b n)
joined_shifted Every = all_shifted
joined_shifted Any = any_shifted

-- over numbers that are counted up
take_counted : (a n k : ℕ) → k ≤ n → take k (range_with_len a n) ≡ range_with_len a k
take_counted a n zero l = refl
take_counted a zero (suc k) l = absurd (omega (arith, l))
take_counted a (suc n) (suc k) l = ap (λ xs. a ∷ xs) (take_counted (a + 1) n k (omega (arith, l)))

pub joined_counted : (j : Junction) (f : ℕ → Bool) (n : ℕ) → joined j f (range_with_len 0 (n + 1)) ≡ join_two j (joined j f (range_with_len 0 n)) (f n)
joined_counted j f n =
    let long = length-range_with_len 0 (n + 1) in
    sym (ap (joined j f) (take_counted 0 (n + 1) (n + 1) (omega arith))) ∙ joined_more j f (range_with_len 0 (n + 1)) n 0 (omega (arith, long))
    ∙ ap₂ (λ xs x. join_two j (joined j f xs) (f x)) (take_counted 0 (n + 1) n (omega arith)) (get_or-range_with_len 0 (n + 1) n 0 (omega arith) ∙ omega arith)
