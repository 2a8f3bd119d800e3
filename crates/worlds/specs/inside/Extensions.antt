-- Sets of places as what a function is true of.
use Rattle.std.specs.Prelude.{◌≡◌, ℕ, ◌<◌, Bool}
use Rattle.bit_sets.specs.BitSets.{has}

-- Of the first places, so many and at most 64, the set has just those of which the function is true.
abbrev pub IsExtension : ℕ → (ℕ → Bool) → ℕ → Type 0
IsExtension columns f bits = (c : ℕ) → c < columns → c < 64 → has bits c ≡ f c
