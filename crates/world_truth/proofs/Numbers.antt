-- The numbers of the blocks, one by one.
use Rattle.std.proofs.Common.{◌≡◌, ℕ, ◌+◌, ◌<◌, ◌≤◌, Bool, true, false, List, length, take, get_or, ap, ◌∙◌, arith, take_all}
use Rattle.std.specs.Prelude.{◌&&◌, ◌||◌}
use Rattle.std.specs.List.{list_all, list_any}
use Rattle.std.proofs.lemmas.List.FromFn.{length-range_with_len, get_or-range_with_len}
use Rattle.std.proofs.lemmas.List.Folds.{list_all_more, list_any_more, list_all_at, list_any_at}
use Rattle.worlds.specs.declared.block.Block.{Block}
use Rattle.worlds.specs.Worlds.{numbers}

pub number_at_place : (w : List Block) (i : ℕ) → i < length w → get_or (numbers w) i 0 ≡ i + 1
number_at_place w i h = get_or-range_with_len 1 (length w) i 0 h ∙ omega arith

pub within : (w : List Block) (i : ℕ) → i < length w → i < length (numbers w)
within w i h = omega (arith, h, length-range_with_len 1 (length w))

pub all_more : (f : ℕ → Bool) (w : List Block) (i : ℕ) → i < length w → list_all f (take (i + 1) (numbers w)) ≡ (list_all f (take i (numbers w)) && f (i + 1))
all_more f w i h = list_all_more f (numbers w) i 0 (within w i h) ∙ ap (λ k. list_all f (take i (numbers w)) && f k) (number_at_place w i h)

pub any_more : (f : ℕ → Bool) (w : List Block) (i : ℕ) → i < length w → list_any f (take (i + 1) (numbers w)) ≡ (list_any f (take i (numbers w)) || f (i + 1))
any_more f w i h = list_any_more f (numbers w) i 0 (within w i h) ∙ ap (λ k. list_any f (take i (numbers w)) || f k) (number_at_place w i h)

pub all_fails : (f : ℕ → Bool) (w : List Block) (i : ℕ) → i < length w → f (i + 1) ≡ false → list_all f (numbers w) ≡ false
all_fails f w i h e = list_all_at f (numbers w) i 0 (within w i h) (ap f (number_at_place w i h) ∙ e)

pub any_holds : (f : ℕ → Bool) (w : List Block) (i : ℕ) → i < length w → f (i + 1) ≡ true → list_any f (numbers w) ≡ true
any_holds f w i h e = list_any_at f (numbers w) i 0 (within w i h) (ap f (number_at_place w i h) ∙ e)

pub all_taken : (w : List Block) (i : ℕ) → length w ≤ i → take i (numbers w) ≡ numbers w
all_taken w i h = take_all i (numbers w) (omega (arith, h, length-range_with_len 1 (length w)))
