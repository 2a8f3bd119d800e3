-- The first node of a tree that isn't in order.
use Rattle.std.specs.Prelude.{◌≡◌, ℕ, zero, suc, List, [], ◌∷◌, Result, Ok, Err, length}
use Rattle.std.specs.List.{AllByRecursion}
use Rattle.deriv_laws.specs.Trees.{Node}
use Rattle.deriv_laws.specs.Valid.{Meets}

-- `IsFirstBad ns k`: the nodes before place k, counted from 0, are in order, and the one there isn't.
abbrev pub IsFirstBad : List Node → ℕ → Type 0
IsFirstBad [] k = ⊥
IsFirstBad (n ∷ ns) zero = Meets n → ⊥
IsFirstBad (n ∷ ns) (suc k) = Meets n × IsFirstBad ns k

-- A scan of the nodes either counts them, where all are in order, or gives the place of the first that isn't.
abbrev pub IsScan : List Node → Result ℕ ℕ → Type 0
IsScan ns (Ok count) = AllByRecursion Meets ns × (count ≡ length ns)
IsScan ns (Err k) = IsFirstBad ns k
