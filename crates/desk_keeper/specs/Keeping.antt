-- What a keeper's calls answer and leave.
use Rattle.std.specs.Prelude.{◌≡◌, ◌⊎◌, ℕ, ◌≤◌, List, Result, IsErrOf, IfOk, IfSome, MatchResult}
use Rattle.std.specs.declared.option.Option.{Option}
use Rattle.std.specs.Option.{option_map}
use Rattle.edge_io.specs.Causes.{Rose}
use Rattle.desk_keeper.specs.declared.rows.Row.{Row}
use Rattle.desk_keeper.specs.declared.tables.Tables.{Tables}
use Rattle.desk_keeper.specs.declared.keeper.KeepFault.{KeepFault}
use Rattle.desk_keeper.specs.declared.keeper.KeepFault.TheVariants.{Failed, Memory}
use Rattle.desk_keeper.specs.Rows.{with_rows}

-- The count of faults never falls; the keeper fails only where it rose; and want of memory leaves it.
pub record HasKeepCause {T : Type 0} (before now : ℕ) (result : Result T KeepFault) : Type 0 where
  pub later : before ≤ now
  pub failed : IsErrOf result Failed → Rose before now
  pub memory : IsErrOf result Memory → now ≡ before

-- Told tables stay as they were, and are what is loaded.
pub record Loads (old new : Option Tables) (result : Result Tables KeepFault) : Type 0 where
  pub same : new ≡ old
  pub told : IfOk result (λ tables. IfSome old (λ kept. tables ≡ kept))

-- Told tables get the rows, all of them or none.
abbrev pub Appended : Option Tables → Option Tables → List Row → Result (Unit {0}) KeepFault → Type 0
Appended old new rows result = MatchResult result (λ _. new ≡ option_map (λ tables. with_rows tables rows) old) (λ _. new ≡ old)

-- A stop leaves told tables as they were, or with the whole batch.
abbrev pub StopsWhole : Option Tables → List Row → Tables → Type 0
StopsWhole old rows left = IfSome old (λ tables. (left ≡ tables) ⊎ (left ≡ with_rows tables rows))
