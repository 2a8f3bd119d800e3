-- What callers see of a keeper in memory.
use Rattle.std.specs.Prelude.{◌≡◌, ℕ, Some, IsTrue, false}
use Rattle.edge_io.specs.Calls.{Tally, fails_next, one_more}
use Rattle.desk_keeper.specs.declared.tables.Tables.{Tables}

-- The rows that are kept, the calls, and how many batches were to be appended.
pub record MemRows : Type 0 where
  pub tables : Tables
  pub calls : Tally
  pub appends : ℕ

-- One call was made. It counted as a failure exactly where it was listed to fail.
pub record CountsKeep (old new : Tally) : Type 0 where
  pub same_list : new.fails ≡ old.fails
  pub one_call : new.made ≡ one_more old.made
  pub no_fault : fails_next old ≡ false → new.failed ≡ old.failed
  pub one_fault : IsTrue (fails_next old) → new.failed ≡ one_more old.failed

-- Nothing but what is kept is kept.
pub kept_alone : (kept tables : Tables) → Some kept ≡ Some tables → tables ≡ kept
kept_alone kept tables same = cc
