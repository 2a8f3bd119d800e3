-- The calls of an edge in memory, some of which are told beforehand to fail.
use Rattle.std.specs.Prelude.{◌≡◌, ℕ, ◌+◌, ◌-◌, ◌^◌, ◌==◌, min, List, Bool, Result, OnOk, OnErr}
use Rattle.std.specs.List.{list_any}

-- The numbers of the calls that fail, how many calls were made, and how many of them failed.
pub record Tally : Type 0 where
  pub fails : List ℕ
  pub made : ℕ
  pub failed : ℕ

-- one more, up to the greatest count
abbrev pub one_more : ℕ → ℕ
one_more n = min (n + 1) (2 ^ 64 - 1)

-- The next call, whose number counts from 1, is one of those that fail.
abbrev pub fails_next : Tally → Bool
fails_next tally = list_any (λ n. n == one_more tally.made) tally.fails

-- One call was made, and counted as a failure exactly where it failed.
pub record CountsCall {T E : Type 0} (old new : Tally) (result : Result T E) : Type 0 where
  pub same_list : new.fails ≡ old.fails
  pub one_call : new.made ≡ one_more old.made
  pub no_fault : OnOk result (new.failed ≡ old.failed)
  pub one_fault : OnErr result (new.failed ≡ one_more old.failed)
