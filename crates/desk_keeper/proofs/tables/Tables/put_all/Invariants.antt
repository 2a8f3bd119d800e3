use Rattle.std.proofs.Common.{◌≡◌, take}
use Rattle.desk_keeper.specs.Rows.{with_rows}
use Rattle.desk_keeper.proofs.tables.Tables.put_all.Given as goal

abbrev pub invariant-loop-row : goal.invariant-loop-row
invariant-loop-row l = l.self ≡ with_rows l.fn.self (take l.row-index l.rows)
