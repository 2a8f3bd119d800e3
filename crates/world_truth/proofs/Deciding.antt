-- Where each of the first places is in a set just where a function is true of it, the set decides whether it always is, or ever.
use Rattle.std.proofs.Common.{◌≡◌, ℕ, zero, suc, ◌+◌, ◌<◌, ◌≤◌, Bool, true, false, List, length, take, refl, sym, ap, ◌∙◌, arith}
use Rattle.std.specs.Prelude.{◌&&◌, ◌||◌}
use Rattle.std.specs.List.{list_all, list_any}
use Rattle.bit_sets.specs.BitSets.{has, HasAll, LacksOne, HasOne, HasNone}
use Rattle.worlds.specs.declared.block.Block.{Block}
use Rattle.worlds.specs.Worlds.{numbers}
use Rattle.world_truth.proofs.Numbers.{all_more, any_more, all_fails, any_holds, all_taken}

all_so : (f : ℕ → Bool) (w : List Block) → ((k : ℕ) → k < length w → f (k + 1) ≡ true) → (i : ℕ) → i ≤ length w → list_all f (take i (numbers w)) ≡ true
all_so f w h zero l = refl
all_so f w h (suc i) l =
    let e : suc i ≡ i + 1 = omega arith in
    ap (λ j. list_all f (take j (numbers w))) e ∙ all_more f w i (omega (arith, l)) ∙ ap (λ b. b && f (i + 1)) (all_so f w h i (omega (arith, l))) ∙ h i (omega (arith, l))

none_so : (f : ℕ → Bool) (w : List Block) → ((k : ℕ) → k < length w → f (k + 1) ≡ false) → (i : ℕ) → i ≤ length w → list_any f (take i (numbers w)) ≡ false
none_so f w h zero l = refl
none_so f w h (suc i) l =
    let e : suc i ≡ i + 1 = omega arith in
    ap (λ j. list_any f (take j (numbers w))) e ∙ any_more f w i (omega (arith, l)) ∙ ap (λ b. b || f (i + 1)) (none_so f w h i (omega (arith, l))) ∙ h i (omega (arith, l))

pub all_decided : (f : ℕ → Bool) (w : List Block) (bits : ℕ) → ((k : ℕ) → k < length w → has bits k ≡ f (k + 1)) →
    (b : Bool) → (b ≡ true → HasAll (length w) bits) → (b ≡ false → LacksOne (length w) bits) → b ≡ list_all f (numbers w)
all_decided f w bits h true s t =
    sym (ap (list_all f) (sym (all_taken w (length w) (omega arith))) ∙ all_so f w (λ k l. sym (h k l) ∙ s refl k l) (length w) (omega arith))
all_decided f w bits h false s t =
    let lack = t refl in sym (all_fails f w lack.0 lack.1 (sym (h lack.0 lack.1) ∙ lack.2))

pub some_decided : (f : ℕ → Bool) (w : List Block) (bits : ℕ) → ((k : ℕ) → k < length w → has bits k ≡ f (k + 1)) →
    (b : Bool) → (b ≡ true → HasOne (length w) bits) → (b ≡ false → HasNone (length w) bits) → b ≡ list_any f (numbers w)
some_decided f w bits h true s t =
    let one = s refl in sym (any_holds f w one.0 one.1 (sym (h one.0 one.1) ∙ one.2))
some_decided f w bits h false s t =
    sym (ap (list_any f) (sym (all_taken w (length w) (omega arith))) ∙ none_so f w (λ k l. sym (h k l) ∙ t refl k l) (length w) (omega arith))
