-- How sentences are found by their digests.
use Rattle.std.specs.Prelude.{◌≡◌, ℕ, zero, suc, ◌==◌, Bool, false, if◌then◌else◌, List, length, slice_get, slice_index, Option, Some, None}
use Rattle.std.specs.Ordering.{nat_cmp}
use Rattle.std.specs.BTreeMap.{BTreeMap, get}
use Rattle.fol_core.specs.declared.sent.Sent.{Sent}
use Rattle.taut_con.specs.inside.Digests.{digest}

-- There is a sentence, and it has the digest d.
abbrev pub has_digest : ℕ → Option Sent → Bool
has_digest d None = false
has_digest d (Some s) = digest s == d

-- The number, from 1, of the last of the first k sentences that has the digest d, or 0 where none has.
abbrev pub last_with : ℕ → List Sent → ℕ → ℕ
last_with d ss zero = zero
last_with d ss (suc k) = if has_digest d (slice_get ss k) then suc k else last_with d ss k

-- The number, where there is one, and 0 where there is none.
abbrev pub or_zero : Option ℕ → ℕ
or_zero None = 0
or_zero (Some n) = n

-- For each sentence there is the number of the last one before it that has its digest.
pub record IsLinked (ss : List Sent) (earlier : List ℕ) : Type 0 where
  pub same_length : length earlier ≡ length ss
  pub links : (k : ℕ) (s : Sent) → slice_get ss k ≡ Some s → slice_index earlier k ≡ last_with (digest s) ss k

-- And for each digest there is the number of the last sentence that has it.
pub record IsIndexed (ss : List Sent) (earlier : List ℕ) (latest : BTreeMap ℕ ℕ) : Type 0 where
  pub linked : IsLinked ss earlier
  pub heads : (d : ℕ) → or_zero (get nat_cmp latest d) ≡ last_with d ss (length ss)
