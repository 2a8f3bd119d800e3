-- What the parts of the grader of tables answer.
use Rattle.std.specs.Prelude.{◌≡◌, ℕ, ◌+◌, Bool, List, [], ◌∷◌, length, map, if◌then◌else◌}
use Rattle.fol_core.specs.declared.sent.Sent.{Sent}
use Rattle.taut_con.specs.Rows.{row_values, rows}
use Rattle.boole_table.specs.declared.table.TableRow.{TableRow}
use Rattle.boole_table.specs.declared.table.TableVerdict.{TableVerdict}
use Rattle.boole_table.specs.Verdict.{has_row}

-- The verdict is the first of these.
abbrev pub IsFirst : TableVerdict → List TableVerdict → Type 0
IsFirst verdict faults = (more : List TableVerdict) × (faults ≡ verdict ∷ more)

-- For each row of the standard order, whether one of these rows of the text has it.
abbrev pub seen_flags : List Sent → List Sent → List TableRow → List Bool
seen_flags columns ls found = map (λ r. has_row columns ls found (row_values (length ls) r)) (rows (length ls))

-- The numbers of the flags that are false, where the first flag has the number k.
abbrev pub unset : ℕ → List Bool → List ℕ
unset k [] = []
unset k (b ∷ bs) = if b then unset (k + 1) bs else k ∷ unset (k + 1) bs
