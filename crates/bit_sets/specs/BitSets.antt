-- Sets of places from 0 to 63.
use Rattle.std.specs.Prelude.{◌≡◌, ℕ, ◌<◌, Bool, true, false, not, ◌&&◌, ◌||◌, nat_lt, ◌==◌}
use Rattle.std.specs.Int.{bit_at}

-- The place is in the set of these bits.
abbrev pub has : ℕ → ℕ → Bool
has bits k = bit_at bits k == 1

-- Each of the first places, so many, is in the set.
abbrev pub HasAll : ℕ → ℕ → Type 0
HasAll count bits = (k : ℕ) → k < count → has bits k ≡ true

-- One of the first places, so many, is not in the set.
abbrev pub LacksOne : ℕ → ℕ → Type 0
LacksOne count bits = (k : ℕ) × (k < count) × (has bits k ≡ false)

-- One of the first places, so many, is in the set.
abbrev pub HasOne : ℕ → ℕ → Type 0
HasOne count bits = (k : ℕ) × (k < count) × (has bits k ≡ true)

-- None of the first places, so many, is in the set.
abbrev pub HasNone : ℕ → ℕ → Type 0
HasNone count bits = (k : ℕ) → k < count → has bits k ≡ false

-- Both are true, or both are false.
abbrev pub are_alike : Bool → Bool → Bool
are_alike true b = b
are_alike false b = not b

-- The number lies strictly between the two others.
abbrev pub is_inside : ℕ → ℕ → ℕ → Bool
is_inside k m n = (nat_lt m k && nat_lt k n) || (nat_lt n k && nat_lt k m)
