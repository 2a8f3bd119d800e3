use Rattle.std.proofs.Common.{sym, ap, ◌∙◌, take}
use Rattle.desk_keeper.specs.Rows.{with_row}
use Rattle.desk_keeper.proofs.Growing.{taken_back, with_rows-next}
use Rattle.desk_keeper.proofs.tables.Tables.put_all.Goals as goal

pub returns-in-Err-clause-err : goal.returns-in-Err-clause-err
returns-in-Err-clause-err c =
    taken_back c.args.self.now c.put.new.self _ c.sizes-sizes.result (take c.loop-row.row-index c.args.rows.now)
    c.sizes-sizes.ensures.value (c.in-Err.ensures.err ∙ c.loop-row.invariant) c.cut.ensures.value

pub loop-row-preserved : goal.loop-row-preserved
loop-row-preserved c = c.in-Ok.ensures.ok ∙ ap (λ t. with_row t c.row-item.result) c.loop-row.invariant
    ∙ sym (with_rows-next c.args.self.now c.args.rows.now c.loop-row.row-index c.row-item.result c.loop-row-test.true c.row-item.is)
