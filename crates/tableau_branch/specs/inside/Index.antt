-- Where on a trail the signed sentences of one weight stand.
use Rattle.std.specs.Prelude.{◌≡◌, ℕ, zero, suc, Bool, false, ◌+◌, ◌<◌, ◌%◌, ◌==◌, List, [], ◌∷◌, length, slice_index_or, if◌then◌else◌}
use Rattle.tableau_laws.specs.declared.literal.Literal.{Literal as Signed}
use Rattle.tableau_laws.specs.Branch.{same_signed}
use Rattle.tableau_branch.specs.inside.Weight.{weight_of}

-- the bucket of a signed sentence
unfoldable pub bucket_of : Signed → ℕ
bucket_of l = weight_of l.holds l.sentence % 4096

-- the positions, counted from i, of what belongs into the bucket k
abbrev pub places : ℕ → ℕ → List Signed → List ℕ
places k i [] = []
places k i (l ∷ ls) = if bucket_of l == k then i ∷ places k (i + 1) ls else places k (i + 1) ls

-- the buckets of the branch b: each has the positions of what belongs into it, in order
pub record IsIndexed (b : List Signed) (buckets : List (List ℕ)) : Type 0 where
  pub count : length buckets ≡ 4096
  pub each : (k : ℕ) → k < 4096 → slice_index_or buckets k [] ≡ places k 0 b

-- The signed sentence stands at this position.
abbrev pub is_at : List Signed → Signed → ℕ → Bool
is_at [] l i = false
is_at (x ∷ xs) l zero = same_signed l x
is_at (x ∷ xs) l (suc i) = is_at xs l i
