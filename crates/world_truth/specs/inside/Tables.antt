-- Tables of truth values, with a set of columns in each row, and the ways to join values to one.
use Rattle.std.specs.Prelude.{◌≡◌, ℕ, ◌+◌, ◌*◌, ◌<◌, Bool, true, false, not, ◌&&◌, ◌||◌, List, get_or}
use Rattle.std.specs.List.{list_all, list_any, range_with_len}
use Rattle.world_truth.specs.declared.junction.Connective.{Connective}
use Rattle.world_truth.specs.declared.junction.Connective.TheVariants.{And, Or, If, Iff}
use Rattle.world_truth.specs.declared.junction.Junction.{Junction}
use Rattle.world_truth.specs.declared.junction.Junction.TheVariants.{Every, Any}
use Rattle.world_truth.specs.declared.table.Table.{Table}
use Rattle.bit_sets.specs.BitSets.{has}
use Rattle.worlds.specs.inside.Extensions.{IsExtension}
use Rattle.worlds.specs.Truth.{are_alike}

-- The bits of the set in a row.
abbrev pub bits_in : Table → ℕ → ℕ
bits_in t r = (get_or t.rows r (record { bits = 0 })).bits

-- What a connective makes of two values.
abbrev pub connect : Connective → Bool → Bool → Bool
connect And b c = b && c
connect Or b c = b || c
connect If b c = not b || c
connect Iff b c = are_alike b c

-- What a junction makes of two values.
abbrev pub join_two : Junction → Bool → Bool → Bool
join_two Every b c = b && c
join_two Any b c = b || c

-- What a junction makes of no values.
abbrev pub of_none : Junction → Bool
of_none Every = true
of_none Any = false

-- Whether a property holds of every listed thing, or of any.
abbrev pub joined : {X : Type 0} → Junction → (X → Bool) → List X → Bool
joined Every f xs = list_all f xs
joined Any f xs = list_any f xs

-- Each of the first rows, so many, has of the first columns, so many, just those of which its function is true.
abbrev pub AreExtensions : ℕ → ℕ → (ℕ → ℕ → Bool) → Table → Type 0
AreExtensions columns rows f t = (r : ℕ) → r < rows → IsExtension columns (f r) (bits_in t r)

-- The set has what a connective makes of two sets, for each of the 64 places.
abbrev pub IsJoin : Connective → ℕ → ℕ → ℕ → Type 0
IsJoin c left right bits = (k : ℕ) → k < 64 → has bits k ≡ connect c (has left k) (has right k)

-- The set has what the other lacks, of the 64 places.
abbrev pub IsComplement : ℕ → ℕ → Type 0
IsComplement other bits = (k : ℕ) → k < 64 → has bits k ≡ not (has other k)

-- In each of the first columns, so many, the set has what a junction makes of a group of columns of the other, so many to a
-- group, one group after the other.
abbrev pub AreGathered : Junction → ℕ → ℕ → ℕ → ℕ → Type 0
AreGathered j columns count other bits = (c : ℕ) → c < columns → c < 64 → has bits c ≡ joined j (λ m. has other (c * count + m)) (range_with_len 0 count)

-- The set has what a junction makes of a group of rows, so many from the first one.
abbrev pub IsGroup : Junction → Table → ℕ → ℕ → ℕ → Type 0
IsGroup j t first count bits = (k : ℕ) → k < 64 → has bits k ≡ joined j (λ m. has (bits_in t (first + m)) k) (range_with_len 0 count)
