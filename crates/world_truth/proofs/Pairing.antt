-- What is said of the block of a digit, from the set of those of which it is true.
use Rattle.std.proofs.Common.{◌≡◌, ℕ, ◌<◌, ◌≤◌, Bool, List, length, ap, ◌∙◌, arith}
use Rattle.std.specs.Prelude.{◌/◌}
use Rattle.std.proofs.lemmas.Nat.{mod_below}
use Rattle.worlds.specs.declared.block.Block.{Block}
use Rattle.bit_sets.specs.BitSets.{has}
use Rattle.worlds.specs.inside.Extensions.{IsExtension}
use Rattle.world_truth.specs.inside.Digits.{digit_of}

pub at_digit : (w : List Block) (f : ℕ → Bool) (set stride r : ℕ) → 0 < length w → length w ≤ 64 → IsExtension (length w) f set → has set (digit_of (length w) stride r) ≡ f (digit_of (length w) stride r)
at_digit w f set stride r some few h = let low = mod_below (r / stride) (length w) some in h (digit_of (length w) stride r) low (omega (arith, low, few))

-- the columns in whose digit is a block of the set
pub spread_extends : (w : List Block) (f : ℕ → Bool) (set bits stride columns count : ℕ) → 0 < length w → count ≤ 64 → count ≡ length w → IsExtension (length w) f set → IsExtension columns (λ c. has set (digit_of count stride c)) bits →
    IsExtension columns (λ c. f (digit_of (length w) stride c)) bits
spread_extends w f set bits stride columns count some few e h spread c l low = spread c l low ∙ ap (λ n. has set (digit_of n stride c)) e ∙ at_digit w f set stride c some (omega (arith, few, e)) h
