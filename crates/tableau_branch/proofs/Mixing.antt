-- Weights, item by item.
use Rattle.std.proofs.Common.{◌≡◌, ℕ, ◌<◌, ◌+◌, List, [], ◌∷◌, length, take, map, refl, get_or, zero, suc, arith, add-one}
use Rattle.tableau_branch.specs.inside.Weight.{mix, mixed}

more_at : {X : Type 0} (g : X → ℕ) (w : ℕ) (xs : List X) (k : ℕ) (x : X) → k < length xs → mixed w (map g (take (suc k) xs)) ≡ mix (mixed w (map g (take k xs))) (g (get_or xs k x))
more_at g w [] k x h = absurd (omega (arith, h))
more_at g w (y ∷ ys) zero x h = refl
more_at g w (y ∷ ys) (suc k) x h = more_at g (mix w (g y)) ys k x (omega (arith, h))

-- one more item
pub mixed_more : {X : Type 0} (g : X → ℕ) (w : ℕ) (xs : List X) (k : ℕ) (x : X) → k < length xs → mixed w (map g (take (k + 1) xs)) ≡ mix (mixed w (map g (take k xs))) (g (get_or xs k x))
mixed_more g w xs k x h = rw add-one (more_at g w xs k x h)

more_bytes : (w : ℕ) (xs : List ℕ) (k : ℕ) → k < length xs → mixed w (take (suc k) xs) ≡ mix (mixed w (take k xs)) (get_or xs k 0)
more_bytes w [] k h = absurd (omega (arith, h))
more_bytes w (y ∷ ys) zero h = refl
more_bytes w (y ∷ ys) (suc k) h = more_bytes (mix w y) ys k (omega (arith, h))

pub mixed_byte : (w : ℕ) (xs : List ℕ) (k : ℕ) → k < length xs → mixed w (take (k + 1) xs) ≡ mix (mixed w (take k xs)) (get_or xs k 0)
mixed_byte w xs k h = rw add-one (more_bytes w xs k h)
