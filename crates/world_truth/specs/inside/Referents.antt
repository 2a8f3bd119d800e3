-- What atomic sentences say in each row and column of a table.
use Rattle.std.specs.Prelude.{ℕ, ◌+◌, ◌<◌, Bool, false, List, [], ◌∷◌, Option, length}
use Rattle.worlds.specs.declared.block.Block.{Block}
use Rattle.world_truth.specs.declared.atomic.Atomic.{Atomic}
use Rattle.world_truth.specs.declared.atomic.Atomic.TheVariants.{Never, One, Two, Three}
use Rattle.world_truth.specs.declared.digits.Referent.{Referent}
use Rattle.worlds.specs.declared.predicate.Predicate.TheVariants.{Between}
use Rattle.world_truth.specs.declared.relation.Relation.{Relation}
use Rattle.world_truth.specs.declared.table.Table.{Table}
use Rattle.worlds.specs.inside.Extensions.{IsExtension}
use Rattle.world_truth.specs.inside.Digits.{digit_of, number_by}
use Rattle.worlds.specs.Predicates.{says}
use Rattle.world_truth.specs.inside.Relations.{relates}
use Rattle.world_truth.specs.inside.Tables.{bits_in}
use Rattle.worlds.specs.Worlds.{block_at}

-- The block of a term.
abbrev pub block_by : List Block → Referent → ℕ → ℕ → Option Block
block_by w s r c = block_at w (number_by (length w) s r c)

-- The value of an atomic sentence.
abbrev pub value_by : List Block → Atomic → ℕ → ℕ → Bool
value_by w Never r c = false
value_by w (One predicate s) r c = says predicate (block_by w s r c ∷ [])
value_by w (Two relation s t) r c = relates w relation (number_by (length w) s r c) (number_by (length w) t r c)
value_by w (Three s t u) r c = says Between (block_by w s r c ∷ block_by w t r c ∷ block_by w u r c ∷ [])

-- From a row on there is, for each block, the set of those that stand so to it.
abbrev pub ArePairs : List Block → Relation → ℕ → Table → Type 0
ArePairs w relation first t = (m : ℕ) → m < length w → IsExtension (length w) (λ k. relates w relation (k + 1) (m + 1)) (bits_in t (first + m))

-- From a row on there are, for each block, the columns in whose digit of this place value is a block that stands so to it.
abbrev pub ArePairsInColumns : List Block → Relation → ℕ → ℕ → ℕ → Table → Type 0
ArePairsInColumns w relation stride columns first t = (m : ℕ) → m < length w → IsExtension columns (λ c. relates w relation (digit_of (length w) stride c + 1) (m + 1)) (bits_in t (first + m))
